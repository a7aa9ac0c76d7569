-- Loops that look for the first of a list, and for the coolest fluid of it.
use Rattle.std.proofs.Common.{◌≡◌, ◌<◌, ◌≤◌, ◌+◌, ℕ, List, length, drop, get_or, refl}
use Rattle.std.specs.Prelude.{Bool, true, false, Option, Some, None, if◌then◌else◌}
use Rattle.fractions.specs.Fraction.{Fraction}
use Rattle.plan_base.specs.declared.ids.GoodId.{GoodId}
use Rattle.plan_base.proofs.Walks.{next, drop_all}
use Rattle.game_types.specs.declared.goods.Fluid.{Fluid}
use Rattle.game_types.specs.Temperatures.{coolest, cooler_of, first_where}

pub first_stop : {A : Type 0} (test : A → Bool) (xs : List A) (k : ℕ) (x : A) → k < length xs → x ≡ get_or xs k x → test x ≡ true → first_where test (drop k xs) ≡ Some x
first_stop test xs k x within is h = rw (next xs k x within is, h) refl

pub first_pass : {A : Type 0} (test : A → Bool) (xs : List A) (k : ℕ) (x : A) → k < length xs → x ≡ get_or xs k x → test x ≡ false → first_where test (drop k xs) ≡ first_where test (drop (k + 1) xs)
first_pass test xs k x within is h = rw (next xs k x within is, h) refl

pub first_end : {A : Type 0} (test : A → Bool) (xs : List A) (k : ℕ) → length xs ≤ k → first_where test (drop k xs) ≡ None
first_end test xs k end = rw (drop_all xs k end) refl

pub coolest_next : (test : Fluid → Bool) (best : Option (GoodId × Fraction)) (first k : ℕ) (xs : List Fluid) (x : Fluid) → k < length xs → x ≡ get_or xs k x
    → coolest test best first (drop k xs) ≡ coolest test (if test x then cooler_of best first x.at else best) (first + 1) (drop (k + 1) xs)
unfolding coolest
coolest_next test best first k xs x within is = rw (next xs k x within is) refl

pub coolest_end : (test : Fluid → Bool) (best : Option (GoodId × Fraction)) (first k : ℕ) (xs : List Fluid) → length xs ≤ k → coolest test best first (drop k xs) ≡ best
unfolding coolest
coolest_end test best first k xs end = rw (drop_all xs k end) refl
