-- The rows and the ranks that are kept are determined by the state.
use Rattle.std.proofs.Common.{◌≡◌, ◌∙◌, ℕ, ◌<◌, ◌≤◌, Bool, false, true, List, [], ◌∷◌, Option, None, Some, Result, Ok, Err, OnOk, length, map, get_or, refl, sym, ap, subst, arith}
use Rattle.std.specs.Prelude.{All, AllPairs, IfSome, ◌≢◌, if◌then◌else◌, nat_lt, slice_get, unwrap_or}
use Rattle.std.specs.List.{list_all, list_any, range_with_len}
use Rattle.std.proofs.lemmas.Grind.{same_number_lists}
use Rattle.std.proofs.lemmas.Bool.Decides.{nat_tests}
use Rattle.std.proofs.lemmas.List.{get_or_past}
use Rattle.std.proofs.lemmas.List.FromFn.{get_or-map-range_with_len, length-map-range_with_len}
use Rattle.std.proofs.lemmas.List.Elements.{All-head, All-tail}
use Rattle.std.proofs.lemmas.Option.{slice_get-get_or, slice_get_past, unwrap_or-slice_get}
use Rattle.plan_base.specs.Shape.{node_count}
use Rattle.plan_base.specs.declared.ids.NodeId.{NodeId}
use Rattle.plan_base.specs.declared.shape.Shape.{Shape}
use Rattle.graph_store.specs.declared.Row.{Row}
use Rattle.graph_store.specs.Rows.{has_node}
use Rattle.reach_ranks.specs.Rounds.{World, IsWhole}
use Rattle.reach_ranks.specs.Ranks.{rank, AreRanks}
use Rattle.game_types.specs.Nodes.{shape_of}
use Rattle.game_types.specs.declared.games.Game.{Game}
use Rattle.data_edit.specs.declared.books.Book.{Book}
use Rattle.data_edit.specs.declared.edits.Edit.{Edit}
use Rattle.data_edit.specs.Books.{IsSoundBook}
use Rattle.data_edit.specs.Names.{KeepsNames}
use Rattle.depend_rows.specs.Rows.{row_of, rows_of}
use Rattle.depend_rows.specs.Touched.{touched_by, touched_by_all, StaysAs}
use Rattle.depend_rows.proofs.TouchedNodes.{touched_are}
use Rattle.depend_rows.proofs.Below.{length-rows_of}
use Rattle.milestone_masks.specs.declared.worlds.Milestone.{Milestone}
use Rattle.milestone_masks.specs.Worlds.{AgreeInWorlds, AreWorlds, Kept, milestones_of}
use Rattle.milestone_masks.proofs.ChangeLemmas.{SameAt, agree-in_worlds}
use Rattle.production_table.specs.declared.tables.Table.{Table}
use Rattle.state_changes.specs.States.{state_of, AreSoundMilestones}
use Rattle.planning_state.specs.Worlds.{milestone_in, ranks_in, world_of, worlds_of, IsKept}
use Rattle.state_changes.specs.Books.{is_of_mark, is_touched}
use Rattle.planning_state.specs.Books.{AreRowsBut, ComesFrom, with_rows}
use Rattle.planning_state.specs.declared.remembered.Marks.{Marks}
use Rattle.planning_state.specs.Remembered.{AreMarksBut, AreMarksOf}

-- ---- the list of ranks
pub ranks_in-are : (w : World) → AreRanks w (ranks_in w)
unfolding ranks_in
ranks_in-are w = record {
  as_long = length-map-range_with_len (rank w) 0 (length w.rows);
  each = λ n inside. get_or-map-range_with_len (rank w) 0 (length w.rows) n n 0 inside (omega arith);
}

pub are-ranks_in : (w : World) (ranks : List ℕ) → AreRanks w ranks → ranks ≡ ranks_in w
are-ranks_in w ranks are =
    let own : AreRanks w (ranks_in w) = ranks_in-are w in
    same_number_lists ranks (ranks_in w) (are.as_long ∙ sym own.as_long)
    (λ k inside. are.each k (omega (arith, inside, are.as_long)) ∙ sym (own.each k (omega (arith, inside, are.as_long))))

-- ---- the worlds
milestone-in : (book : Book) (m : Milestone) → AreRanks (world_of book (Some m.node)) m.ranks → m ≡ milestone_in book m.node
milestone-in book m are =
    let Of : List ℕ → Milestone = λ ranks. record { node = m.node; ranks = ranks } in
    ap Of (are-ranks_in (world_of book (Some m.node)) m.ranks are)

milestones-in : (book : Book) (ms : List Milestone) → All (λ m. AreRanks (world_of book (Some m.node)) m.ranks) ms → ms ≡ map (milestone_in book) (map (λ m. m.node) ms)
milestones-in book [] all = refl
milestones-in book (m ∷ ms) all =
    ap (λ x. x ∷ ms) (milestone-in book m (All-head (λ m. AreRanks (world_of book (Some m.node)) m.ranks) m ms all))
    ∙ ap (λ xs. milestone_in book m.node ∷ xs) (milestones-in book ms (All-tail (λ m. AreRanks (world_of book (Some m.node)) m.ranks) m ms all))

same_kept : (a b : List ℕ) (ms ns : List Milestone) → a ≡ b → ms ≡ ns → (let x : Kept = record { base = a; milestones = ms } in x) ≡ (let y : Kept = record { base = b; milestones = ns } in y)
same_kept a b ms ns e f = cc

pub kept-is : (book : Book) (kept : Kept) (tables : List Table) → AreWorlds (rows_of book.game) book.barred book.granted kept → kept ≡ worlds_of (state_of book (milestones_of kept) tables)
unfolding worlds_of
kept-is book kept tables are =
    same_kept kept.base (ranks_in (world_of book None)) kept.milestones (map (milestone_in book) (map (λ m. m.node) kept.milestones))
    (are-ranks_in (world_of book None) kept.base are.base)
    (milestones-in book kept.milestones are.each)

-- ---- marks and rows
pub is-whole : (book : Book) (extra : Option NodeId) → IsSoundBook book → IsWhole (world_of book extra)
is-whole book extra sound = record {
  barred = sound.barred ∙ sym (length-rows_of book.game);
  granted = sound.granted ∙ sym (length-rows_of book.game);
}

pub row-at : (g : Game) (n : ℕ) → n < node_count (shape_of g) → slice_get (rows_of g) n ≡ Some (row_of g n)
unfolding rows_of
row-at g n inside =
    let all : List Row = map (row_of g) (range_with_len 0 (node_count (shape_of g))) in
    let long : length all ≡ node_count (shape_of g) = length-map-range_with_len (row_of g) 0 (node_count (shape_of g)) in
    slice_get-get_or all n (row_of g n) (omega (arith, inside, long))
    ∙ ap Some (get_or-map-range_with_len (row_of g) 0 (node_count (shape_of g)) n n (row_of g n) inside (omega arith))

-- ---- a book that comes from another
same_count : (before after : Book) → KeepsNames before.game after.game → node_count (shape_of after.game) ≡ node_count (shape_of before.game)
same_count before after names = ap node_count names.shape

untouched : (before after : Book) (edits : List Edit) (n : ℕ) → KeepsNames before.game after.game → n < node_count (shape_of after.game) → has_node (touched_by_all (shape_of after.game) edits) n ≡ false → is_touched before edits n ≡ false
untouched before after edits n names inside outside =
    ap (λ (s : Shape). list_any (λ edit. has_node (touched_by s edit) n) edits) (sym names.shape)
    ∙ (sym (touched_are (shape_of after.game) edits n inside) ∙ outside)

pub rows-but : (before after : Book) (edits : List Edit) → ComesFrom before edits after → AreRowsBut (touched_by_all (shape_of after.game) edits) after (rows_of before.game)
rows-but before after edits comes = record {
  others = λ n inside outside.
      let within : n < node_count (shape_of before.game) = subst (λ (k : ℕ). n < k) (length-rows_of before.game) inside in
      let after_within : n < node_count (shape_of after.game) = subst (λ (k : ℕ). n < k) (sym (same_count before after comes.names)) within in
      row-at before.game n within
      ∙ ap Some (sym (comes.stays n (untouched before after edits n comes.names after_within outside)).row);
}

-- where each of the edits sets a mark, no row is another
pub rows-with : (before after : Book) (edits : List Edit) → ComesFrom before edits after → AreRowsBut (with_rows edits (touched_by_all (shape_of after.game) edits)) after (rows_of before.game)
rows-with before after edits comes = of_marks (list_all is_of_mark edits) refl
  where
    of_marks : (b : Bool) → list_all is_of_mark edits ≡ b → AreRowsBut (if b then [] else touched_by_all (shape_of after.game) edits) after (rows_of before.game)
    of_marks true is = record {
      others = λ n inside outside.
          row-at before.game n (subst (λ (k : ℕ). n < k) (length-rows_of before.game) inside) ∙ ap (λ (g : Game). Some (row_of g n)) (sym (comes.game is));
    }
    of_marks false is = rows-but before after edits comes

pub with-nodes : (P : NodeId → Type 0) (edits : List Edit) (nodes : List NodeId) → All P nodes → All P (with_rows edits nodes)
with-nodes P edits nodes all = elim (list_all is_of_mark edits) as (λ b. All P (if b then [] else nodes)) [ true ↦ λ k d inside. absurd (omega (arith, inside)) | false ↦ all ]

pub with-once : (edits : List Edit) (nodes : List NodeId) → AllPairs (λ (m n : NodeId). m.0 ≢ n.0) nodes → AllPairs (λ (m n : NodeId). m.0 ≢ n.0) (with_rows edits nodes)
with-once edits nodes once = elim (list_all is_of_mark edits) as (λ b. AllPairs (λ (m n : NodeId). m.0 ≢ n.0) (if b then [] else nodes)) [ true ↦ λ i j d less inside. absurd (omega (arith, inside)) | false ↦ once ]

pub with-fewer : (edits : List Edit) (nodes : List NodeId) → length (with_rows edits nodes) ≤ length nodes
with-fewer edits nodes = elim (list_all is_of_mark edits) as (λ b. length (if b then [] else nodes) ≤ length nodes) [ true ↦ omega arith | false ↦ omega arith ]

get_or-same : {A : Type 0} (xs ys : List A) (n : ℕ) (d : A) → slice_get xs n ≡ slice_get ys n → get_or xs n d ≡ get_or ys n d
get_or-same xs ys n d e = sym (unwrap_or-slice_get xs n d) ∙ (ap (λ (o : Option _). unwrap_or o d) e ∙ unwrap_or-slice_get ys n d)

pub agree-but : (before after : Book) (edits : List Edit) (kept : Kept) → IsSoundBook before → IsSoundBook after → AreWorlds (rows_of before.game) before.barred before.granted kept → ComesFrom before edits after
    → AgreeInWorlds (rows_of after.game) after.barred after.granted (touched_by_all (shape_of after.game) edits) kept
agree-but before after edits kept sound after_sound are comes =
    agree-in_worlds (rows_of before.game) (rows_of after.game) before.barred after.barred before.granted after.granted (touched_by_all (shape_of after.game) edits) kept
    as_long same (is-whole before None sound) are
  where
    as_long : length (rows_of after.game) ≡ length (rows_of before.game)
    as_long = length-rows_of after.game ∙ (same_count before after comes.names ∙ sym (length-rows_of before.game))

    inside : (n : ℕ) → n < node_count (shape_of after.game) → has_node (touched_by_all (shape_of after.game) edits) n ≡ false → SameAt (rows_of before.game) (rows_of after.game) before.barred after.barred before.granted after.granted n
    inside n within outside =
        let stays : StaysAs before after n = comes.stays n (untouched before after edits n comes.names within outside) in
        let before_within : n < node_count (shape_of before.game) = subst (λ (k : ℕ). n < k) (same_count before after comes.names) within in
        record {
          row = row-at after.game n within ∙ (ap Some stays.row ∙ sym (row-at before.game n before_within));
          barred_same = get_or-same after.barred before.barred n false stays.barred;
          granted_same = get_or-same after.granted before.granted n false stays.granted;
        }

    past : (n : ℕ) → node_count (shape_of after.game) ≤ n → SameAt (rows_of before.game) (rows_of after.game) before.barred after.barred before.granted after.granted n
    past n high =
        let count : node_count (shape_of after.game) ≡ node_count (shape_of before.game) = same_count before after comes.names in
        record {
          row = slice_get_past (rows_of after.game) n (omega (arith, high, length-rows_of after.game))
              ∙ sym (slice_get_past (rows_of before.game) n (omega (arith, high, count, length-rows_of before.game)));
          barred_same = get_or_past after.barred n false (omega (arith, high, after_sound.barred)) ∙ sym (get_or_past before.barred n false (omega (arith, high, count, sound.barred)));
          granted_same = get_or_past after.granted n false (omega (arith, high, after_sound.granted)) ∙ sym (get_or_past before.granted n false (omega (arith, high, count, sound.granted)));
        }

    same : (n : ℕ) → has_node (touched_by_all (shape_of after.game) edits) n ≡ false → SameAt (rows_of before.game) (rows_of after.game) before.barred after.barred before.granted after.granted n
    same n outside = cases (nat_lt n (node_count (shape_of after.game))) refl
      where
        cases : (b : Bool) → nat_lt n (node_count (shape_of after.game)) ≡ b → SameAt (rows_of before.game) (rows_of after.game) before.barred after.barred before.granted after.granted n
        cases true is = inside n (grind (arith, nat_tests, is)) outside
        cases false is = past n (grind (arith, nat_tests, is))

-- the marks of the book before are those of the book behind it, but at the nodes that the edits touch
pub marks-but : (before after : Book) (edits : List Edit) (marks : Option Marks) → IsSoundBook before → IsSoundBook after → ComesFrom before edits after → IfSome marks (AreMarksOf before) → IfSome marks (AreMarksBut (touched_by_all (shape_of after.game) edits) after)
marks-but before after edits None sound after_sound comes of = tt
marks-but before after edits (Some marks) sound after_sound comes of = record {
  barred_long = ap length of.barred ∙ (sound.barred ∙ (sym count ∙ sym after_sound.barred));
  granted_long = ap length of.granted ∙ (sound.granted ∙ (sym count ∙ sym after_sound.barred));
  as_long = after_sound.granted ∙ sym after_sound.barred;
  barred = λ n outside. ap (λ xs. slice_get xs n) of.barred ∙ by_place n outside before.barred after.barred sound.barred after_sound.barred (λ stays. stays.barred);
  granted = λ n outside. ap (λ xs. slice_get xs n) of.granted ∙ by_place n outside before.granted after.granted sound.granted after_sound.granted (λ stays. stays.granted);
}
  where
    count : node_count (shape_of after.game) ≡ node_count (shape_of before.game)
    count = same_count before after comes.names

    by_place : (n : ℕ) → has_node (touched_by_all (shape_of after.game) edits) n ≡ false → (old new : List Bool) → length old ≡ node_count (shape_of before.game) → length new ≡ node_count (shape_of after.game)
        → (StaysAs before after n → slice_get new n ≡ slice_get old n) → slice_get old n ≡ slice_get new n
    by_place n outside old new long new_long same = cases (nat_lt n (node_count (shape_of after.game))) refl
      where
        cases : (b : Bool) → nat_lt n (node_count (shape_of after.game)) ≡ b → slice_get old n ≡ slice_get new n
        cases true is = sym (same (comes.stays n (untouched before after edits n comes.names (grind (arith, nat_tests, is)) outside)))
        cases false is =
            let high : node_count (shape_of after.game) ≤ n = grind (arith, nat_tests, is) in
            slice_get_past old n (omega (arith, high, count, long)) ∙ sym (slice_get_past new n (omega (arith, high, new_long)))

pub long-before : (before after : Book) (rows : List Row) → rows ≡ rows_of before.game → KeepsNames before.game after.game → length rows ≡ node_count (shape_of after.game)
long-before before after rows e names = ap length e ∙ (length-rows_of before.game ∙ sym (same_count before after names))

-- what is kept where rows and ranks are settled after a change of the book
pub kept-settled : {E : Type 0} (result : Result (Unit {0}) E) (before after : Book) (own rows : List Row) (old new : Kept) → IsKept before own old → KeepsNames before.game after.game → IsSoundBook after → milestones_of new ≡ milestones_of old
    → OnOk result (rows ≡ rows_of after.game) → OnOk result (AreWorlds (rows_of after.game) after.barred after.granted new) → OnOk result (IsKept after rows new)
kept-settled (Err fault) before after own rows old new kept names sound same e are = tt
kept-settled (Ok u) before after own rows old new kept names sound same e are = record {
  sound = subst (AreSoundMilestones after) (sym same) (record {
    book = sound;
    nodes = subst (λ (k : ℕ). All (λ (m : NodeId). m.0 < k) (milestones_of old)) (sym (same_count before after names)) kept.sound.nodes;
    once = kept.sound.once;
    few = kept.sound.few;
  });
  rows_are = e;
  worlds = are;
}
