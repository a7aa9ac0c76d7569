-- What an exchange makes of a row of numbers.
use Rattle.std.specs.Prelude.{◌≡◌, ℕ, ◌<◌, List, length}
use Rattle.std.specs.Coded.{Coded, code_by, coded_list}
use Rattle.fractions.specs.Fraction.{Fraction, ◌-ʳ◌, ◌*ʳ◌, ◌/ʳ◌}
use Rattle.fractions.specs.Limits.{IsNarrow}
use Rattle.fractions.specs.Stored.{fraction_code}
use Rattle.linear_table.specs.Plans.{number_at}
use Rattle.linear_table.specs.Wide.{LessFits}

-- the numbers of a row
pub record Numbers : Type 0 where
  pub items : List Fraction

abbrev pub numbers_code : Coded Numbers
numbers_code = code_by (List Fraction) (coded_list fraction_code) (λ x. x.items) (λ xs. record { items = xs }) (λ x i. x)

-- no number is past the limits
abbrev pub AreNarrow : List Fraction → Type 0
AreNarrow row = (k : ℕ) → k < length row → IsNarrow (number_at row k)

-- each number is divided by the pivot, and no quotient is wide
pub record IsDividedRow (old : List Fraction) (pivot : Fraction) (new : List Fraction) : Type 0 where
  pub length_is : length new ≡ length old
  pub narrow : (k : ℕ) → k < length old → IsNarrow (number_at old k /ʳ pivot)
  pub numbers : (k : ℕ) → k < length old → number_at new k ≡ number_at old k /ʳ pivot

-- each number is less the factor times the pivot row's number, and none is wide
pub record IsReducedRow (old : List Fraction) (factor : Fraction) (pivot_row new : List Fraction) : Type 0 where
  pub length_is : length new ≡ length old
  pub narrow : (k : ℕ) → k < length old → LessFits (number_at old k) factor (number_at pivot_row k)
  pub numbers : (k : ℕ) → k < length old → number_at new k ≡ number_at old k -ʳ factor *ʳ number_at pivot_row k
