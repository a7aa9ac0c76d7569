-- What the tests of signs show.
use Rattle.std.proofs.Common.{◌≡◌, refl, ap, arith}
use Rattle.std.specs.Prelude.{true, false, ℤ, pos, negsuc, ◌≤ℤ◌, ◌<ℤ◌, ◌<◌, ◌≢◌}
use Rattle.std.proofs.lemmas.Int.{ints}
use Rattle.std.proofs.lemmas.Bool.Decides.{nat_tests}
use Rattle.fractions.specs.Fraction.{Fraction, zero_fraction, ◌≤ʳ◌, ◌<ʳ◌}
use Rattle.fractions.specs.Signs.{is_above_zero, is_positive, is_below_zero, is_negative, is_zero, is_zero_number}
use Rattle.fractions.proofs.Order.{num_of_nonneg, nonneg_of_num, num_of_positive, positive_of_num, <ʳ_not_≤ʳ}
use Rattle.fractions.proofs.Parts.{num-zero}

-- ---- above 0
above_zero : (z : ℤ) → is_above_zero z ≡ true → pos 0 <ℤ z
above_zero (pos n) h = let k : 0 < n = grind (arith, nat_tests) in omega (arith, ints)
above_zero (negsuc n) h = absurd (cc)

pub positive_is : (x : Fraction) → is_positive x ≡ true → zero_fraction <ʳ x
positive_is x h = positive_of_num x (above_zero x.num h)

above : (z : ℤ) → pos 0 <ℤ z → is_above_zero z ≡ true
above (pos n) h = grind (arith, ints, nat_tests)
above (negsuc n) h = absurd (omega (arith, ints))

pub is_positive_when : (x : Fraction) → zero_fraction <ʳ x → is_positive x ≡ true
is_positive_when x h = above x.num (num_of_positive x h)

-- ---- below 0
below : (z : ℤ) → ¬ (pos 0 ≤ℤ z) → is_below_zero z ≡ true
below (pos n) h = absurd (h (omega (arith, ints)))
below (negsuc n) h = refl

pub negative_is : (x : Fraction) → x <ʳ zero_fraction → is_negative x ≡ true
negative_is x h = below x.num (λ k. <ʳ_not_≤ʳ x zero_fraction h (nonneg_of_num x k))

not_below : (z : ℤ) → pos 0 ≤ℤ z → is_below_zero z ≡ false
not_below (pos n) h = refl
not_below (negsuc n) h = absurd (omega (arith, ints))

pub not_negative : (x : Fraction) → zero_fraction ≤ʳ x → is_negative x ≡ false
not_negative x h = not_below x.num (num_of_nonneg x h)

fair : (z : ℤ) → is_below_zero z ≡ false → pos 0 ≤ℤ z
fair (pos n) h = omega (arith, ints)
fair (negsuc n) h = absurd (cc)

pub nonneg_is : (x : Fraction) → is_negative x ≡ false → zero_fraction ≤ʳ x
nonneg_is x h = nonneg_of_num x (fair x.num h)

-- ---- 0
nothing : (z : ℤ) → is_zero_number z ≡ true → z ≡ pos 0
nothing (pos n) h = let e : n ≡ 0 = grind (arith, nat_tests) in ap pos e
nothing (negsuc n) h = absurd (cc)

pub zero_is : (x : Fraction) → is_zero x ≡ true → x ≡ zero_fraction
zero_is x h = num-zero x (nothing x.num h)

pub zero_of : is_zero zero_fraction ≡ true
unfolding zero_fraction
zero_of = refl

more : (z : ℤ) → is_below_zero z ≡ false → is_zero_number z ≡ false → pos 0 <ℤ z
more (pos n) h k = let e : n ≢ 0 = grind (arith, nat_tests) in omega (arith, ints)
more (negsuc n) h k = absurd (cc)

-- what is neither below 0 nor 0 is above 0
pub positive_left : (x : Fraction) → is_negative x ≡ false → is_zero x ≡ false → zero_fraction <ʳ x
positive_left x h k = positive_of_num x (more x.num h k)

pub zero_not_negative : is_negative zero_fraction ≡ false
unfolding zero_fraction
zero_not_negative = refl

other : (z : ℤ) → pos 0 <ℤ z → is_zero_number z ≡ false
other (pos n) h = let e : n ≢ 0 = λ k. omega (arith, ints) in grind (arith, nat_tests, e)
other (negsuc n) h = refl

pub positive_not_zero : (x : Fraction) → zero_fraction <ʳ x → is_zero x ≡ false
positive_not_zero x h = other x.num (num_of_positive x h)
