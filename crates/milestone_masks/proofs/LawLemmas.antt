-- The nodes that have a rank are those that can be reached.
use Rattle.std.specs.Prelude.{map}
use Rattle.std.proofs.Common.{◌≡◌, ℕ, ◌≤◌, Bool, true, false, not, ltb, List, [], ◌∷◌, Some, All, cond, length, refl, sym, ◌∙◌, ap, arith, inl, inr}
use Rattle.std.proofs.Math.ListN.{get_or-eq_default}
use Rattle.std.proofs.lemmas.Bool.{cases_lt}
use Rattle.std.proofs.lemmas.Bool.Decides.{nat_tests}
use Rattle.std.proofs.lemmas.List.Elements.{All-head, All-tail}
use Rattle.std.specs.List.{filter}
use Rattle.graph_store.specs.declared.Row.{Row}
use Rattle.plan_base.specs.declared.NodeId.{NodeId}
use Rattle.reach_ranks.specs.Rounds.{World, world, reach, IsWhole}
use Rattle.reach_ranks.specs.Ranks.{rank, is_one_to, AreRanks}
use Rattle.reach_ranks.proofs.RoundLemmas.{round-past}
use Rattle.reach_ranks.proofs.RankLemmas.{one_to-rank, rank_to-le}
use Rattle.milestone_masks.specs.declared.worlds.Milestone.{Milestone}
use Rattle.milestone_masks.specs.Worlds.{mask, ranked}

pub one_to-all : (k r : ℕ) → r ≤ k → ltb 0 r ≡ is_one_to k r
one_to-all k r le = grind (arith, nat_tests)

pub rank-le : (w : World) (n : ℕ) → rank w n ≤ length w.rows
unfolding rank
rank-le w n = rank_to-le w (length w.rows) n

pub ranked-reached : (w : World) (ranks : List ℕ) → IsWhole w → AreRanks w ranks → (n : ℕ) → ranked ranks n ≡ reach w n
unfolding reach
ranked-reached w ranks whole are n =
    elim (cases_lt n (length w.rows)) [
      | inl inside ↦ ap (λ (r : ℕ). ltb 0 r) (are.each n inside) ∙ (one_to-all (length w.rows) (rank w n) (rank-le w n) ∙ one_to-rank w whole (length w.rows) n)
      | inr past ↦ ap (λ (r : ℕ). ltb 0 r) (get_or-eq_default ranks 0 (omega (arith, are.as_long))) ∙ sym (round-past w whole (length w.rows) n past)
    ]

pub one-more : (a b : Bool) (m : Milestone) (kept : List Milestone) (nodes : List NodeId) → a ≡ b → map (λ x. x.node) kept ≡ nodes → map (λ x. x.node) (cond (not a) (m ∷ kept) kept) ≡ cond (not b) (m.node ∷ nodes) nodes
one-more true b m kept nodes e same = rw (sym e) same
one-more false b m kept nodes e same = rw (sym e) (ap (λ (ns : List NodeId). m.node ∷ ns) same)

pub mask-same : (rows : List Row) (barred granted : List Bool) (node : ℕ) (milestones : List Milestone) → ((m : NodeId) → IsWhole (world rows barred granted (Some m))) → All (λ m. AreRanks (world rows barred granted (Some m.node)) m.ranks) milestones → map (λ m. m.node) (filter (λ m. not (ranked m.ranks node)) milestones) ≡ mask rows barred granted (map (λ m. m.node) milestones) node
mask-same rows barred granted node [] whole are = refl
mask-same rows barred granted node (m ∷ ms) whole are =
    let P : Milestone → Type 0 = λ x. AreRanks (world rows barred granted (Some x.node)) x.ranks in
    let here : ranked m.ranks node ≡ reach (world rows barred granted (Some m.node)) node = ranked-reached (world rows barred granted (Some m.node)) m.ranks (whole m.node) (All-head P m ms are) node in
    one-more (ranked m.ranks node) (reach (world rows barred granted (Some m.node)) node) m (filter (λ (x : Milestone). not (ranked x.ranks node)) ms) (mask rows barred granted (map (λ (x : Milestone). x.node) ms) node) here (mask-same rows barred granted node ms whole (All-tail P m ms are))
