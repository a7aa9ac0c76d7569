-- Lists of numbers that are read from a tableau.
use Rattle.std.specs.Prelude.{◌≡◌, ◌≢◌, ℕ, ◌<◌, ◌⊎◌, List, length, slice_index}
use Rattle.number_rows.specs.Changed.{Numbers}
use Rattle.fractions.specs.Fraction.{Fraction, zero_fraction}
use Rattle.linear_table.specs.Plans.{number_at}
use Rattle.pivot_solver.specs.Rows.{row_at}

-- x is the last number of the column's row, or 0 where the column has none
abbrev pub IsBasicValue : List ℕ → List Numbers → ℕ → ℕ → Fraction → Type 0
IsBasicValue basis rows width column x = ((i : ℕ) × (i < length basis) × (slice_index basis i ≡ column) × (x ≡ number_at (row_at rows i) width)) ⊎ (((i : ℕ) → i < length basis → slice_index basis i ≢ column) × (x ≡ zero_fraction))

-- n numbers, of which the one at k is as P says
pub record ListsEach (n : ℕ) (P : ℕ → Fraction → Type 0) (numbers : List Fraction) : Type 0 where
  pub length_is : length numbers ≡ n
  pub each : (k : ℕ) → k < n → P k (number_at numbers k)
