-- An amount added to a column.
use Rattle.std.proofs.Common.{◌≡◌, ◌∙◌, ◌<◌, ◌≤◌, ◌+◌, ℕ, zero, suc, List, [], ◌∷◌, length, drop, take, refl, sym, ap, subst, arith}
use Rattle.std.specs.Prelude.{Bool, true, false, nat_lt, ◌==◌, Option, Some, None, Result, Ok, Err, slice_get, slice_index_or, slice_set, if◌then◌else◌}
use Rattle.std.specs.List.{insert}
use Rattle.std.proofs.lemmas.Bool.Decides.{nat_tests}
use Rattle.std.proofs.lemmas.Option.{slice_get_read, slice_get_within}
use Rattle.std.proofs.lemmas.Bool.{cond-true}
use Rattle.fractions.specs.Fraction.{Fraction}
use Rattle.plan_base.specs.declared.ids.GoodId.{GoodId}
use Rattle.game_types.specs.declared.effects.Wide.{Wide}
use Rattle.game_types.specs.Steps.{◌▸◌, added}
use Rattle.table_rows.specs.Columns.{with_part}
use Rattle.table_rows.specs.Places.{has_at, is_of, AllBelow, IsPlace, StartsFrom}

pub second_branch : {A : Type 0} (b c : Bool) (x y z : A) → b ≡ false → c ≡ true → (if b then x else if c then y else z) ≡ y
second_branch false true x y z h k = refl
second_branch true c x y z h k = absurd (cc)
second_branch false false x y z h k = absurd (cc)

pub third_branch : {A : Type 0} (b c : Bool) (x y z : A) → b ≡ false → c ≡ false → (if b then x else if c then y else z) ≡ z
third_branch false false x y z h k = refl
third_branch true c x y z h k = absurd (cc)
third_branch false true x y z h k = absurd (cc)

-- behind lesser goods
pub part_behind : (step : ℕ) (good : GoodId) (amount : Fraction) (p : GoodId × Fraction) (ps : List (GoodId × Fraction)) → p.0.0 < good.0
    → with_part step good amount (p ∷ ps) ≡ (with_part step good amount ps ▸ λ rest. Ok (p ∷ rest))
unfolding with_part
part_behind step good amount p ps h =
    let above : nat_lt good.0 p.0.0 ≡ false = grind (arith, nat_tests) in
    let apart : (good.0 == p.0.0) ≡ false = grind (arith, nat_tests) in
    third_branch (nat_lt good.0 p.0.0) (good.0 == p.0.0) _ _ _ above apart

-- a value comes of a step, and then another
twice : (r : Result Fraction Wide) (f : Fraction → List (GoodId × Fraction)) (p : GoodId × Fraction)
    → ((r ▸ λ sum. Ok (f sum)) ▸ λ rest. Ok (p ∷ rest)) ≡ (r ▸ λ sum. Ok (p ∷ f sum))
twice (Ok x) f p = refl
twice (Err wide) f p = refl

-- the good has a part
pub part_here : (step : ℕ) (good : GoodId) (amount : Fraction) (column : List (GoodId × Fraction)) (place : ℕ) (p : GoodId × Fraction)
    → AllBelow good (take place column) → slice_get column place ≡ Some p → p.0.0 ≡ good.0
    → with_part step good amount column ≡ (added step p.1 amount ▸ λ sum. Ok (slice_set column place (good, sum)))
unfolding with_part
part_here step good amount [] place p below is at = absurd (cc)
part_here step good amount (q ∷ ps) zero p below is at =
    let same : q ≡ p = cc in
    let same_good : q.0.0 ≡ good.0 = ap (λ (r : GoodId × Fraction). r.0.0) same ∙ at in
    let above : nat_lt good.0 q.0.0 ≡ false = grind (arith, nat_tests) in
    let equal : (good.0 == q.0.0) ≡ true = grind (arith, nat_tests) in
    second_branch (nat_lt good.0 q.0.0) (good.0 == q.0.0) _ _ _ above equal
    ∙ ap (λ (r : GoodId × Fraction). added step r.1 amount ▸ λ sum. Ok ((good, sum) ∷ ps)) same
part_here step good amount (q ∷ ps) (suc place) p below is at =
    part_behind step good amount q ps below.0
    ∙ ap (λ (r : Result (List (GoodId × Fraction)) Wide). r ▸ λ rest. Ok (q ∷ rest)) (part_here step good amount ps place p below.1 is at)
    ∙ twice (added step p.1 amount) (λ sum. slice_set ps place (good, sum)) q

-- the good has none
pub part_new : (step : ℕ) (good : GoodId) (amount : Fraction) (column : List (GoodId × Fraction)) (place : ℕ)
    → AllBelow good (take place column) → StartsFrom good (drop place column) → has_at column place good ≡ false → place ≤ length column
    → with_part step good amount column ≡ Ok (insert column place (good, amount))
unfolding with_part
part_new step good amount [] zero below behind none within = refl
part_new step good amount [] (suc place) below behind none within = absurd (omega arith)
part_new step good amount (q ∷ ps) zero below behind none within =
    let less : nat_lt good.0 q.0.0 ≡ true = grind (arith, nat_tests) in
    cond-true (nat_lt good.0 q.0.0) _ _ less
part_new step good amount (q ∷ ps) (suc place) below behind none within =
    part_behind step good amount q ps below.0
    ∙ ap (λ (r : Result (List (GoodId × Fraction)) Wide). r ▸ λ rest. Ok (q ∷ rest)) (part_new step good amount ps place below.1 behind none (omega arith))

-- one good more is below
pub below_next : (good : GoodId) (column : List (GoodId × Fraction)) (place : ℕ) (p : GoodId × Fraction) → AllBelow good (take place column) → slice_get column place ≡ Some p → p.0.0 < good.0
    → AllBelow good (take (suc place) column)
below_next good [] place p below is h = absurd (cc)
below_next good (q ∷ ps) zero p below is h = let same : q ≡ p = cc in (subst (λ (r : GoodId × Fraction). r.0.0 < good.0) (sym same) h, tt)
below_next good (q ∷ ps) (suc place) p below is h = (below.0, below_next good ps place p below.1 is h)

pub starts_at : (good : GoodId) (column : List (GoodId × Fraction)) (place : ℕ) (p : GoodId × Fraction) → slice_get column place ≡ Some p → good.0 ≤ p.0.0 → StartsFrom good (drop place column)
starts_at good [] place p is h = absurd (cc)
starts_at good (q ∷ ps) zero p is h = let same : q ≡ p = cc in subst (λ (r : GoodId × Fraction). good.0 ≤ r.0.0) (sym same) h
starts_at good (q ∷ ps) (suc place) p is h = starts_at good ps place p is h

pub starts_nowhere : (good : GoodId) (column : List (GoodId × Fraction)) (place : ℕ) → length column ≤ place → StartsFrom good (drop place column)
starts_nowhere good [] zero h = tt
starts_nowhere good [] (suc place) h = tt
starts_nowhere good (q ∷ ps) zero h = absurd (omega arith)
starts_nowhere good (q ∷ ps) (suc place) h = starts_nowhere good ps place (omega arith)

-- the part that stands at a place
pub has_place : (column : List (GoodId × Fraction)) (place : ℕ) (good : GoodId) → has_at column place good ≡ true → (p : GoodId × Fraction) × (slice_get column place ≡ Some p) × (p.0.0 ≡ good.0)
has_place column place good h = by_part (slice_get column place) refl h
  where
    by_part : (o : Option (GoodId × Fraction)) → slice_get column place ≡ o → is_of good o ≡ true → (p : GoodId × Fraction) × (slice_get column place ≡ Some p) × (p.0.0 ≡ good.0)
    by_part (Some p) is h = (p, is, grind (arith, nat_tests))
    by_part None is h = absurd (cc)

pub has_within : (column : List (GoodId × Fraction)) (place : ℕ) (good : GoodId) → has_at column place good ≡ true → place < length column
has_within column place good h = let at = has_place column place good h in slice_get_within column place at.0 at.1

-- an amount added to a part that stands there
pub part_added : (step : ℕ) (good : GoodId) (amount : Fraction) (column : List (GoodId × Fraction)) (place : ℕ) (part : GoodId × Fraction) → IsPlace column good place → has_at column place good ≡ true
    → part ≡ slice_index_or column place part → with_part step good amount column ≡ (added step part.1 amount ▸ λ sum. Ok (slice_set column place (good, sum)))
part_added step good amount column place part is_place has read =
    let at = has_place column place good has in
    let got : slice_get column place ≡ Some part = slice_get_read column (length column) place part refl (has_within column place good has) read in
    let same : at.0 ≡ part = let one : slice_get column place ≡ Some at.0 = at.1 in cc in
    part_here step good amount column place part is_place.before got (ap (λ (p : GoodId × Fraction). p.0.0) (sym same) ∙ at.2)
