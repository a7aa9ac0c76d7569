-- What is kept answers the questions of the state.
use Rattle.std.proofs.Common.{◌≡◌, ◌∙◌, ℕ, ◌+◌, ◌*◌, ◌-◌, ◌^◌, ◌<◌, ◌≤◌, Bool, List, [], Option, None, Some, Result, Ok, Err, IfOk, length, map, sym, ap, subst, arith, All}
use Rattle.std.specs.Prelude.{◌≢◌, AllPairs, slice_get, slice_index}
use Rattle.std.proofs.Math.Path.{fun_ext}
use Rattle.std.proofs.lemmas.List.Elements.{All-nil}
use Rattle.plan_base.specs.Shape.{node_count}
use Rattle.plan_base.specs.declared.ids.NodeId.{NodeId}
use Rattle.graph_store.specs.declared.Row.{Row}
use Rattle.graph_store.specs.Rows.{AreMembersBelow, member_count}
use Rattle.reach_ranks.specs.Rounds.{Nodes}
use Rattle.reach_ranks.specs.Ranks.{AreRanks}
use Rattle.game_types.specs.Nodes.{shape_of}
use Rattle.game_types.specs.declared.games.Game.{Game}
use Rattle.planner_tables.specs.Effects.{AreSoundTables, IsSoundOn}
use Rattle.data_edit.specs.declared.books.Book.{Book}
use Rattle.data_edit.specs.Books.{IsSoundBook}
use Rattle.depend_rows.specs.Rows.{rows_of}
use Rattle.depend_rows.proofs.Below.{length-rows_of, rows_below}
use Rattle.planning_state.proofs.BelowLemmas.{why-below}
use Rattle.milestone_masks.specs.declared.worlds.Milestone.{Milestone}
use Rattle.milestone_masks.specs.Why.{IsWhy}
use Rattle.milestone_masks.specs.Worlds.{AreWorlds, Kept, mask_of, milestones_of, missing_in, ranked}
use Rattle.milestone_masks.proofs.LawLemmas.{mask-same, ranked-reached}
use Rattle.production_table.specs.declared.tables.Table.{Table}
use Rattle.state_changes.specs.States.{State, state_of}
use Rattle.planning_state.specs.Worlds.{is_reached, mask_in, rank_of, ranks_in, world_of, IsKept}
use Rattle.planning_state.proofs.Kept.{are-ranks_in, is-whole}

module _ (s : State) (book : Book) (tables : List Table) (rows : List Row) (kept : Kept) (view : state_of book (milestones_of kept) tables ≡ s) (keeps : IsKept book rows kept) where
  long : length kept.base ≡ node_count (shape_of book.game)
  long = keeps.worlds.base.as_long ∙ length-rows_of book.game

  own : (n : ℕ) → n < node_count (shape_of s.book.game) → n < node_count (shape_of book.game)
  own n inside = subst (λ (u : State). n < node_count (shape_of u.book.game)) (sym view) inside

  pub base-within : (n : ℕ) → n < node_count (shape_of s.book.game) → n < length kept.base
  base-within n inside = omega (arith, own n inside, long)

  pub rows-within : (n : ℕ) → n < node_count (shape_of s.book.game) → n < length rows
  rows-within n inside = omega (arith, own n inside, ap length keeps.rows_are, length-rows_of book.game)

  pub rank-is : (n : ℕ) → n < node_count (shape_of s.book.game) → slice_index kept.base n ≡ rank_of s.book n
  rank-is n inside =
      keeps.worlds.base.each n (omega (arith, own n inside, length-rows_of book.game)) ∙ ap (λ (u : State). rank_of u.book n) view

  pub reached-is : (n : ℕ) → ranked kept.base n ≡ is_reached s.book n
  reached-is n = ranked-reached (world_of book None) kept.base (is-whole book None keeps.sound.book) keeps.worlds.base n ∙ ap (λ (u : State). is_reached u.book n) view

  pub mask-is : (n : ℕ) → mask_of kept n ≡ mask_in s n
  mask-is n =
      mask-same (rows_of book.game) book.barred book.granted n kept.milestones (λ m. is-whole book (Some m) keeps.sound.book) keeps.worlds.each
      ∙ ap (λ (u : State). mask_in u n) view

  pub missing-is : (n : ℕ) → missing_in (ranked kept.base) (slice_get rows n) ≡ missing_in (is_reached s.book) (slice_get (rows_of s.book.game) n)
  missing-is n =
      ap (λ (set : Nodes). missing_in set (slice_get rows n)) (fun_ext reached-is)
      ∙ (ap (λ (r : List Row). missing_in (is_reached s.book) (slice_get r n)) keeps.rows_are
      ∙ ap (λ (u : State). missing_in (is_reached s.book) (slice_get (rows_of u.book.game) n)) view)

  pub granted-long : length book.granted ≡ length rows
  granted-long = keeps.sound.book.granted ∙ (sym (length-rows_of book.game) ∙ ap length (sym keeps.rows_are))

  pub why-is : (granted : List Bool) (node : ℕ) (nodes : List NodeId) → granted ≡ book.granted → IsWhy rows granted kept.base node nodes → IsWhy (rows_of s.book.game) s.book.granted (ranks_in (world_of s.book None)) node nodes
  why-is granted node nodes e why =
      subst (λ (u : State). IsWhy (rows_of u.book.game) u.book.granted (ranks_in (world_of u.book None)) node nodes) view
      (subst (λ (ranks : List ℕ). IsWhy (rows_of book.game) book.granted ranks node nodes) (are-ranks_in (world_of book None) kept.base keeps.worlds.base)
      (subst (λ (r : List Row). IsWhy r book.granted kept.base node nodes) keeps.rows_are
      (subst (λ (g : List Bool). IsWhy rows g kept.base node nodes) e why)))

  pub nodes-of-why : (granted : List Bool) (node : ℕ) (nodes : List NodeId) → node < node_count (shape_of s.book.game) → IsWhy rows granted kept.base node nodes → All (λ (m : NodeId). m.0 < node_count (shape_of s.book.game)) nodes
  nodes-of-why granted node nodes inside why =
      subst (λ (u : State). All (λ (m : NodeId). m.0 < node_count (shape_of u.book.game)) nodes) view
      (why-below (node_count (shape_of book.game)) rows granted kept.base node nodes
      (subst (AreMembersBelow (node_count (shape_of book.game))) (sym keeps.rows_are) (rows_below book.game keeps.sound.book.game)) (own node inside) why)

-- ---- the first worlds
pub few-ranks : (book : Book) (ranks : List ℕ) (extra : Option NodeId) → IsSoundBook book → AreRanks (world_of book extra) ranks → length ranks < 2 ^ 32 - 1
few-ranks book ranks extra sound are = omega (arith, are.as_long, length-rows_of book.game, sound.game.nodes)

pub kept-first : (book : Book) (rows : List Row) (worlds : Kept) → IsSoundBook book → rows ≡ rows_of book.game → worlds.milestones ≡ [] → AreWorlds (rows_of book.game) book.barred book.granted worlds → IsKept book rows worlds
kept-first book rows worlds sound e none are = record {
  sound = record {
    book = sound;
    nodes = subst (λ (ms : List Milestone). All (λ (m : NodeId). m.0 < node_count (shape_of book.game)) (map (λ m. m.node) ms)) (sym none) (All-nil (λ (m : NodeId). m.0 < node_count (shape_of book.game)));
    once = subst (λ (ms : List Milestone). AllPairs (λ (m n : NodeId). m.0 ≢ n.0) (map (λ (m : Milestone). m.node) ms)) (sym none) (λ i j d less inside. absurd (omega (arith, inside)));
    few = subst (λ (ms : List Milestone). length (map (λ (m : Milestone). m.node) ms) ≤ 256) (sym none) (omega arith);
  };
  rows_are = e;
  worlds = are;
}

pub no-tables : (g : Game) → AreSoundTables g []
no-tables g = record { names = tt; few = omega arith; each = All-nil (IsSoundOn g) }

pub first-steps : {A E : Type 0} (result : Result A E) (book : Book) (rows : List Row) (old new : ℕ) → rows ≡ rows_of book.game → new ≤ old + 4 * (length rows + member_count rows) → IfOk result (λ _. new ≤ old + 4 * (node_count (shape_of book.game) + member_count (rows_of book.game)))
first-steps (Ok a) book rows old new e h = more (length rows) (member_count rows) (ap length e ∙ length-rows_of book.game) (ap member_count e) h
  where
    more : (l m : ℕ) → l ≡ node_count (shape_of book.game) → m ≡ member_count (rows_of book.game) → new ≤ old + 4 * (l + m) → new ≤ old + 4 * (node_count (shape_of book.game) + member_count (rows_of book.game))
    more l m p q h = omega (arith, p, q, h)
first-steps (Err fault) book rows old new e h = tt
