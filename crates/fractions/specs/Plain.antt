-- Which of the texts that the readers take are printed of a fraction. What is printed stands in `Print`;
-- proofs/Printed.antt ties the two.
use Rattle.std.specs.Prelude.{◌≡◌, ◌≢◌, ◌<◌, ◌^◌, true, []}
use Rattle.std.specs.Str.Parse.{digits_value}
use Rattle.fractions.specs.Gcd.{gcd}
use Rattle.fractions.specs.Numeral.{Numeral}
use Rattle.fractions.specs.Quotient.{Quotient}

-- in lowest terms, within the limits, and not whole
pub record IsPlainQuotient (q : Quotient) : Type 0 where
  pub top_narrow : digits_value 10 q.top < 2 ^ 127
  pub bottom_narrow : digits_value 10 q.bottom < 2 ^ 127
  pub not_whole : digits_value 10 q.bottom ≢ 1
  pub lowest : gcd (digits_value 10 q.top) (digits_value 10 q.bottom) ≡ 1

-- only a sign and a whole part, within the limits, and not `-0`
pub record IsPlainWhole (n : Numeral) : Type 0 where
  pub no_part : n.part ≡ []
  pub no_power : n.power ≡ []
  pub narrow : digits_value 10 n.whole < 2 ^ 127
  pub not_minus_zero : n.negative ≡ true → 0 < digits_value 10 n.whole
