-- The world of one more milestone.
use Rattle.std.specs.Prelude.{insert}
use Rattle.std.proofs.Common.{◌≡◌, ◌≢◌, ◌||◌, ℕ, zero, suc, ◌+◌, ◌≤◌, Bool, false, eqb, List, [], ◌∷◌, ◌++◌, Some, None, Result, Ok, Err, OnOk, OnErr, All, length, get_or, take, drop, map, refl, sym, ◌∙◌, ap, subst, arith, inl, inr}
use Rattle.std.proofs.lemmas.Bool.{cases_lt, cases_eq, ne_eqb}
use Rattle.std.proofs.lemmas.List.{ext_get_or}
use Rattle.std.proofs.lemmas.List.Edits.{length-insert, get_or-insert_at, get_or-insert_below, get_or-insert_above}
use Rattle.plan_base.specs.declared.NodeId.{NodeId}
use Rattle.graph_store.specs.declared.Row.{Row}
use Rattle.reach_ranks.specs.Rounds.{World, world}
use Rattle.reach_ranks.specs.Ranks.{AreRanks, Agrees}
use Rattle.reach_ranks.specs.Given.{size_of}
use Rattle.milestone_masks.specs.declared.worlds.Milestone.{Milestone}
use Rattle.milestone_masks.specs.Worlds.{AddsWorld, AreWorlds}

-- barring a node changes what that node agrees with alone

pub barred-same : (b : Bool) (node n : ℕ) → node ≢ n → (b || eqb node n) ≡ (b || false)
barred-same b node n ne = rw (ne_eqb node n ne) refl

pub agrees-barred : (rows : List Row) (barred granted : List Bool) (node : NodeId) (n : ℕ) (ranks : List ℕ) → node.0 ≢ n → Agrees (world rows barred granted None) ranks n → Agrees (world rows barred granted (Some node)) ranks n
agrees-barred rows barred granted node n ranks ne a =
    let same = barred-same (get_or barred n false) node.0 n ne in
    record {
      barred = λ h. a.barred (sym same ∙ h);
      granted = λ h g. a.granted (sym same ∙ h) g;
      by_row = λ h g. a.by_row (sym same ∙ h) g;
    }

pub ranks-unique : (w : World) (a b : List ℕ) → AreRanks w a → AreRanks w b → a ≡ b
ranks-unique w a b p q =
    ext_get_or 0 a b (p.as_long ∙ sym q.as_long) (λ n lt. p.each n (omega (arith, p.as_long)) ∙ sym (q.each n (omega (arith, p.as_long))))

pub size-same : (w : World) (rows : List Row) (changed : List NodeId) (copied base new ranks : List ℕ) → copied ≡ base → AreRanks w new → AreRanks w ranks → size_of rows changed copied new ≡ size_of rows changed base ranks
size-same w rows changed copied base new ranks e p q =
    ap (λ (xs : List ℕ). size_of rows changed xs new) e ∙ ap (λ (xs : List ℕ). size_of rows changed base xs) (ranks-unique w new ranks p q)

-- an element more in a list

pub map-take : {X Y : Type 0} (f : X → Y) (xs : List X) (i : ℕ) → map f (take i xs) ≡ take i (map f xs)
map-take f xs zero = refl
map-take f [] (suc i) = refl
map-take f (x ∷ xs) (suc i) = ap (λ ys. f x ∷ ys) (map-take f xs i)

pub map-drop : {X Y : Type 0} (f : X → Y) (xs : List X) (i : ℕ) → map f (drop i xs) ≡ drop i (map f xs)
map-drop f xs zero = refl
map-drop f [] (suc i) = refl
map-drop f (x ∷ xs) (suc i) = map-drop f xs i

pub map-both : {X Y : Type 0} (f : X → Y) (xs ys : List X) → map f (xs ++ ys) ≡ map f xs ++ map f ys
map-both f [] ys = refl
map-both f (x ∷ xs) ys = ap (λ zs. f x ∷ zs) (map-both f xs ys)

pub map-insert : {X Y : Type 0} (f : X → Y) (xs : List X) (i : ℕ) (x : X) → map f (insert xs i x) ≡ insert (map f xs) i (f x)
map-insert f xs i x =
    map-both f (take i xs) (x ∷ drop i xs)
    ∙ (ap (λ ys. ys ++ (f x ∷ map f (drop i xs))) (map-take f xs i) ∙ ap (λ ys. take i (map f xs) ++ (f x ∷ ys)) (map-drop f xs i))

pub All-insert : {X : Type 0} (P : X → Type 0) (xs : List X) (i : ℕ) (x : X) → i ≤ length xs → All P xs → P x → All P (insert xs i x)
All-insert {X} P xs i x le all here zero d lt =
    elim (cases_lt zero i) [
      | inl lower ↦ subst P (sym (get_or-insert_below xs i x d zero lower le)) (all zero d (omega arith))
      | inr upper ↦ let e : i ≡ zero = omega arith in
          subst P (sym (ap (λ k. get_or (insert xs i x) k d) (sym e) ∙ get_or-insert_at xs i x d le)) here
    ]
All-insert {X} P xs i x le all here (suc k) d lt =
    elim (cases_lt (suc k) i) [
      | inl lower ↦ subst P (sym (get_or-insert_below xs i x d (suc k) lower le)) (all (suc k) d (omega arith))
      | inr upper ↦ elim (cases_eq (suc k) i) [
        | inl same ↦ subst P (sym (ap (λ j. get_or (insert xs i x) j d) same ∙ get_or-insert_at xs i x d le)) here
        | inr other ↦
            let below : i ≤ k = omega arith in
            let next : suc k ≡ k + 1 = omega arith in
            subst
            P
            (sym (ap (λ j. get_or (insert xs i x) j d) next ∙ get_or-insert_above xs i x d k below le))
            (all k d (omega (arith, length-insert xs i x le)))
      ]
    ]

-- one world more

pub added-nodes : (w : World) (node : NodeId) (place : ℕ) (old new : List Milestone) → AddsWorld w node place old new → map (λ m. m.node) new ≡ insert (map (λ m. m.node) old) place node
added-nodes w node place old new adds =
    ap (λ (ms : List Milestone). map (λ m. m.node) ms) adds.items
    ∙ map-insert (λ (m : Milestone). m.node) old place (record { node = node; ranks = adds.ranks })

pub added-worlds : (rows : List Row) (barred granted : List Bool) (node : NodeId) (place : ℕ) (base : List ℕ) (old new : List Milestone) → place ≤ length old → AreWorlds rows barred granted (record { base = base; milestones = old }) → AddsWorld (world rows barred granted (Some node)) node place old new → AreWorlds rows barred granted (record { base = base; milestones = new })
added-worlds rows barred granted node place base old new le are adds = record {
  base = are.base;
  each = subst
      (λ (ms : List Milestone). All (λ m. AreRanks (world rows barred granted (Some m.node)) m.ranks) ms)
      (sym adds.items)
      (All-insert (λ (m : Milestone). AreRanks (world rows barred granted (Some m.node)) m.ranks) old place (record { node = node; ranks = adds.ranks }) le are.each adds.are);
}

pub same-worlds : (rows : List Row) (barred granted : List Bool) (base : List ℕ) (old new : List Milestone) → AreWorlds rows barred granted (record { base = base; milestones = old }) → new ≡ old → AreWorlds rows barred granted (record { base = base; milestones = new })
same-worlds rows barred granted base old new are same =
    subst (λ (ms : List Milestone). AreWorlds rows barred granted (record { base = base; milestones = ms })) (sym same) are

pub either-way : {T E : Type 0} (r : Result T E) (P Q C : Type 0) → OnOk r P → OnErr r Q → (P → C) → (Q → C) → C
either-way (Ok x) P Q C p q f g = f p
either-way (Err e) P Q C p q f g = g q
