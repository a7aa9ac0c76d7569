-- The sign of a fraction is that of its numerator, since its denominator is above 0: tests that definitions cite.
use Rattle.std.specs.Prelude.{◌==◌, Bool, true, false, ℤ, pos, negsuc, nat_lt}
use Rattle.fractions.specs.Fraction.{Fraction}

-- whether a number is above 0
abbrev pub is_above_zero : ℤ → Bool
is_above_zero (pos n) = nat_lt 0 n
is_above_zero (negsuc n) = false

abbrev pub is_positive : Fraction → Bool
is_positive x = is_above_zero x.num

-- whether a number is below 0
abbrev pub is_below_zero : ℤ → Bool
is_below_zero (pos n) = false
is_below_zero (negsuc n) = true

abbrev pub is_negative : Fraction → Bool
is_negative x = is_below_zero x.num

-- whether a number is 0
abbrev pub is_zero_number : ℤ → Bool
is_zero_number (pos n) = n == 0
is_zero_number (negsuc n) = false

abbrev pub is_zero : Fraction → Bool
is_zero x = is_zero_number x.num
