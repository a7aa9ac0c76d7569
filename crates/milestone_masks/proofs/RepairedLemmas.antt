-- The worlds while the first of them have been repaired.
use Rattle.std.proofs.Common.{◌≡◌, ◌≢◌, ℕ, zero, suc, ◌+◌, ◌<◌, ◌≤◌, Bool, List, [], Option, Some, length, slice_get, get_or, map, refl, sym, ◌∙◌, ap, subst, arith, inl, inr, add-one}
use Rattle.std.proofs.lemmas.Bool.{cases_eq}
use Rattle.std.proofs.lemmas.Option.{slice_get-get_or}
use Rattle.std.proofs.lemmas.List.{length-set, get_or-set_same, get_or-set_other, get_or-map, ext_get_or, length-map}
use Rattle.std.proofs.Math.ListN.{set}
use Rattle.plan_base.specs.declared.NodeId.{NodeId}
use Rattle.graph_store.specs.declared.Row.{Row}
use Rattle.reach_ranks.specs.Rounds.{world}
use Rattle.reach_ranks.specs.Ranks.{AreRanks}
use Rattle.reach_ranks.specs.Given.{size_of, sum_below}
use Rattle.milestone_masks.specs.declared.worlds.Milestone.{Milestone}
use Rattle.milestone_masks.specs.Worlds.{ranks_of, size_in_world}

pub record AreRepairedTo (rows : List Row) (barred granted : List Bool) (k : ℕ) (old new : List Milestone) : Type 0 where
  pub as_long : length new ≡ length old
  pub nodes : (i : ℕ) (d : Milestone) → i < length old → (get_or new i d).node ≡ (get_or old i d).node
  pub left : (i : ℕ) (d : Milestone) → k ≤ i → i < length old → get_or new i d ≡ get_or old i d
  pub done : (i : ℕ) (d : Milestone) → i < k → i < length old → AreRanks (world rows barred granted (Some (get_or new i d).node)) (get_or new i d).ranks

pub repaired-none : (rows : List Row) (barred granted : List Bool) (milestones : List Milestone) → AreRepairedTo rows barred granted 0 milestones milestones
repaired-none rows barred granted milestones = record {
  as_long = refl;
  nodes = λ i d lt. refl;
  left = λ i d le lt. refl;
  done = λ i d lt inside. absurd (omega arith);
}

pub repaired-more : (rows : List Row) (barred granted : List Bool) (k : ℕ) (old new : List Milestone) (m : Milestone) → k < length old → AreRepairedTo rows barred granted k old new → ((d : Milestone) → m.node ≡ (get_or new k d).node) → AreRanks (world rows barred granted (Some m.node)) m.ranks → AreRepairedTo rows barred granted (k + 1) old (set new k m)
repaired-more rows barred granted k old new m lt are node ranks =
    let inside : k < length new = omega (arith, are.as_long) in
    record {
      as_long = length-set new k m ∙ are.as_long;
      nodes = λ i d within. elim (cases_eq i k) [
        | inl same ↦ subst (λ (j : ℕ). (get_or (set new k m) j d).node ≡ (get_or old j d).node) (sym same) (ap (λ (x : Milestone). x.node) (get_or-set_same new k m d inside) ∙ (node d ∙ are.nodes k d lt))
        | inr other ↦ ap (λ (x : Milestone). x.node) (get_or-set_other new k i m d other) ∙ are.nodes i d within
      ];
      left = λ i d le within. let other : i ≢ k = omega arith in get_or-set_other new k i m d other ∙ are.left i d (omega arith) within;
      done = λ i d below within. elim (cases_eq i k) [
        | inl same ↦ subst (λ (x : Milestone). AreRanks (world rows barred granted (Some x.node)) x.ranks) (sym (ap (λ j. get_or (set new k m) j d) same ∙ get_or-set_same new k m d inside)) ranks
        | inr other ↦ subst (λ (x : Milestone). AreRanks (world rows barred granted (Some x.node)) x.ranks) (sym (get_or-set_other new k i m d other)) (are.done i d (omega arith) within)
      ];
    }

-- the sizes so far

pub sum_below-same : (f g : ℕ → ℕ) (k : ℕ) → ((i : ℕ) → i < k → f i ≡ g i) → sum_below f k ≡ sum_below g k
sum_below-same f g zero e = refl
sum_below-same f g (suc k) e = omega (arith, e k (omega arith), sum_below-same f g k (λ i lt. e i (omega arith)))

pub slice_get-set_other : (xs : List Milestone) (k i : ℕ) (m : Milestone) → i ≢ k → i < length xs → slice_get (set xs k m) i ≡ slice_get xs i
slice_get-set_other xs k i m ne lt =
    slice_get-get_or (set xs k m) i m (omega (arith, length-set xs k m))
    ∙ (ap (λ (x : Milestone). Some x) (get_or-set_other xs k i m m ne) ∙ sym (slice_get-get_or xs i m lt))

pub sizes-more : (rows : List Row) (changed : List NodeId) (old new : List Milestone) (k : ℕ) (m : Milestone) (before : List ℕ) → k < length old → length new ≡ length old → before ≡ (get_or old k m).ranks → sum_below (size_in_world rows changed old (set new k m)) (k + 1) ≡ size_of rows changed before m.ranks + sum_below (size_in_world rows changed old new) k
sizes-more rows changed old new k m before lt long e =
    let inside : k < length new = omega arith in
    let was : ranks_of (slice_get old k) ≡ before = ap (λ (o : Option Milestone). ranks_of o) (slice_get-get_or old k m lt) ∙ sym e in
    let is : ranks_of (slice_get (set new k m) k) ≡ m.ranks =
    ap (λ (o : Option Milestone). ranks_of o) (slice_get-get_or (set new k m) k m (omega (arith, length-set new k m)))
    ∙ ap (λ (x : Milestone). x.ranks) (get_or-set_same new k m m inside) in
    rw (add-one k) (omega (
      arith,
      ap (λ (xs : List ℕ). size_of rows changed xs (ranks_of (slice_get (set new k m) k))) was,
      ap (λ (xs : List ℕ). size_of rows changed before xs) is,
      sum_below-same (size_in_world rows changed old (set new k m)) (size_in_world rows changed old new) k (λ i below.
          ap (λ (o : Option Milestone). size_of rows changed (ranks_of (slice_get old i)) (ranks_of o)) (slice_get-set_other new k i m (λ q. omega arith) (omega arith))),
    ))

-- all of them

pub nodes-same : (rows : List Row) (barred granted : List Bool) (k : ℕ) (old new : List Milestone) → AreRepairedTo rows barred granted k old new → map (λ m. m.node) new ≡ map (λ m. m.node) old
nodes-same rows barred granted k old new are =
    let none : NodeId = record { 0 = 0 } in
    let other : Milestone = record { node = none; ranks = [] } in
    ext_get_or
    none
    (map (λ (m : Milestone). m.node) new)
    (map (λ (m : Milestone). m.node) old)
    (length-map new (λ (m : Milestone). m.node) ∙ (are.as_long ∙ sym (length-map old (λ (m : Milestone). m.node))))
    (λ i lt.
    let inside : i < length new = omega (arith, length-map new (λ (m : Milestone). m.node)) in
    get_or-map (λ (m : Milestone). m.node) new i other none inside
    ∙ (are.nodes i other (omega (arith, are.as_long)) ∙ sym (get_or-map (λ (m : Milestone). m.node) old i other none (omega (arith, are.as_long)))))
