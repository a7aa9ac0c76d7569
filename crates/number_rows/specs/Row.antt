-- How a row keeps its numbers: short, as whole numbers over one denominator, or each as a fraction.
use Rattle.std.specs.Prelude.{◌≡◌, ℕ, ◌<◌, ◌^◌, ℤ, Bool, true, false, List, length, map}
use Rattle.fractions.specs.Fraction.{Fraction, frac}
use Rattle.number_rows.specs.Tops.{AreWithin}

abbrev pub kept : Bool → ℕ → List ℤ → List Fraction → List Fraction
kept true bottom tops numbers = map (λ t. frac t bottom) tops
kept false bottom tops numbers = numbers

-- `room` is how many whole numbers there is room for beside the tops; a short row may have no room for numbers past its limit
pub record IsKept (short : Bool) (bottom bound : ℕ) (tops : List ℤ) (numbers : List Fraction) (room : ℕ) : Type 0 where
  pub same_length : short ≡ false → length tops ≡ length numbers
  pub room_is : room ≡ length tops
  pub positive : 0 < bottom
  pub bottom_small : bottom < 2 ^ 62
  pub bound_small : bound < 2 ^ 62
  pub within : AreWithin tops bound

-- numbers past the limit of short rows
pub record IsKeptLong (bottom bound : ℕ) (tops : List ℤ) (numbers : List Fraction) : Type 0 where
  pub same_length : length tops ≡ length numbers
  pub positive : 0 < bottom
  pub bottom_small : bottom < 2 ^ 62
  pub bound_small : bound < 2 ^ 125
  pub within : AreWithin tops bound
