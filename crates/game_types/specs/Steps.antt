-- The steps of rates: operations on fractions, each of which fails with the number of its step exactly where the result is
-- past the limits of fractions.
use Rattle.std.specs.Prelude.{ℕ, ◌^◌, Bool, ◌&&◌, ◌+ℤ◌, ◌*ℤ◌, pos, nat_lt, List, [], ◌∷◌, Result, Ok, Err, if◌then◌else◌}
use Rattle.std.specs.Ordering.{int_cmp}
use Rattle.std.specs.declared.cmp.Ordering.{Ordering}
use Rattle.std.specs.declared.cmp.Ordering.TheVariants.{Less, Equal, Greater}
use Rattle.std.proofs.Math.IntN.{nat_abs}
pub use Rattle.plan_base.specs.Binds.{◌▸◌}
use Rattle.fractions.specs.Fraction.{Fraction, ◌+ʳ◌, ◌-ʳ◌, ◌*ʳ◌, ◌/ʳ◌, negated}
use Rattle.fractions.specs.Limits.{lcm, num_over}
use Rattle.game_types.specs.declared.effects.Wide.{Wide}

-- the first fault of a list, looked through in order
unfoldable pub first_fault : {A E : Type 0} → (A → Result (Unit {0}) E) → List A → Result (Unit {0}) E
first_fault test [] = Ok tt
first_fault test (x ∷ xs) = test x ▸ λ _. first_fault test xs

-- whether a fraction is within the limits: the numerator's magnitude and the denominator are below 2 ^ 127
unfoldable pub is_narrow : Fraction → Bool
is_narrow x = nat_lt (nat_abs x.num) (2 ^ 127) && nat_lt x.den (2 ^ 127)

-- whether a sum over the least common denominator is within the limits: that denominator, both numerators, their sum
unfoldable pub do_fit : Fraction → Fraction → Bool
do_fit x y = nat_lt (lcm x.den y.den) (2 ^ 127)
    && nat_lt (nat_abs (num_over x (lcm x.den y.den))) (2 ^ 127)
    && nat_lt (nat_abs (num_over y (lcm x.den y.den))) (2 ^ 127)
    && nat_lt (nat_abs (num_over x (lcm x.den y.den) +ℤ num_over y (lcm x.den y.den))) (2 ^ 127)

unfoldable pub formed : ℕ → Bool → Fraction → Result Fraction Wide
formed step fits value = if fits then Ok value else Err (record { step = step })

unfoldable pub multiplied : ℕ → Fraction → Fraction → Result Fraction Wide
multiplied step x y = formed step (is_narrow (x *ʳ y)) (x *ʳ y)

unfoldable pub divided : ℕ → Fraction → Fraction → Result Fraction Wide
divided step x y = formed step (is_narrow (x /ʳ y)) (x /ʳ y)

unfoldable pub added : ℕ → Fraction → Fraction → Result Fraction Wide
added step x y = formed step (do_fit x y) (x +ʳ y)

unfoldable pub subtracted : ℕ → Fraction → Fraction → Result Fraction Wide
subtracted step x y = formed step (do_fit x (negated y)) (x -ʳ y)

-- a sum and the terms of a list, added in order
unfoldable pub sum_of : {A : Type 0} → ℕ → (A → Result Fraction Wide) → Fraction → List A → Result Fraction Wide
sum_of step term sum [] = Ok sum
sum_of step term sum (x ∷ xs) = term x ▸ λ value. added step sum value ▸ λ more. sum_of step term more xs

-- the greater of two fractions
abbrev pub greater : Ordering → Fraction → Fraction → Fraction
greater Less x y = y
greater Equal x y = x
greater Greater x y = x

unfoldable pub at_least : Fraction → Fraction → Fraction
at_least floor x = greater (int_cmp (floor.num *ℤ pos x.den) (x.num *ℤ pos floor.den)) floor x
