-- Whole numbers over one denominator.
use Rattle.std.specs.Prelude.{◌≡◌, ℕ, ◌<◌, ◌≤◌, ◌^◌, ℤ, pos, ◌*ℤ◌, ◌-ℤ◌, neg_ℤ, Bool, if◌then◌else◌, List, length, slice_index_or, unsigned_abs}
use Rattle.std.specs.Int.{◌∣◌}
use Rattle.fractions.specs.Fraction.{Fraction, frac}
use Rattle.linear_table.specs.Plans.{number_at}

-- the whole number at a place, 0 past the end
abbrev pub top_at : List ℤ → ℕ → ℤ
top_at tops k = slice_index_or tops k (pos 0)

-- no magnitude is greater than the bound
abbrev pub AreWithin : List ℤ → ℕ → Type 0
AreWithin tops bound = (k : ℕ) → k < length tops → unsigned_abs (top_at tops k) ≤ bound

-- each number times the divisor is the old number
pub record IsDividedBy (old : List ℤ) (d : ℕ) (new : List ℤ) : Type 0 where
  pub length_is : length new ≡ length old
  pub numbers : (k : ℕ) → k < length old → top_at new k *ℤ pos d ≡ top_at old k

-- each number is the old one times the scale
pub record IsScaled (old : List ℤ) (scale : ℤ) (new : List ℤ) : Type 0 where
  pub length_is : length new ≡ length old
  pub numbers : (k : ℕ) → k < length old → top_at new k ≡ top_at old k *ℤ scale

-- each number is the old one times the scale less the other row's times the factor
pub record IsCombined (old : List ℤ) (scale : ℤ) (other : List ℤ) (factor : ℤ) (new : List ℤ) : Type 0 where
  pub length_is : length new ≡ length old
  pub numbers : (k : ℕ) → k < length old → top_at new k ≡ top_at old k *ℤ scale -ℤ top_at other k *ℤ factor

-- each number times the divisor is the old one times the scale less the other row's times the factor
pub record IsCombinedOver (old : List ℤ) (scale : ℤ) (other : List ℤ) (factor : ℤ) (d : ℕ) (new : List ℤ) : Type 0 where
  pub length_is : length new ≡ length old
  pub numbers : (k : ℕ) → k < length old → top_at new k *ℤ pos d ≡ top_at old k *ℤ scale -ℤ top_at other k *ℤ factor

-- so divided by a divisor of the denominator, and no magnitude is greater than the bound
pub record IsLowered (old : List ℤ) (scale : ℤ) (other : List ℤ) (factor : ℤ) (bottom d bound : ℕ) (new : List ℤ) : Type 0 where
  pub positive : 0 < d
  pub divides : d ∣ bottom
  pub combined : IsCombinedOver old scale other factor d new
  pub within : AreWithin new bound
  pub small : bound < 2 ^ 62

-- each number is the old one, or its opposite
pub record IsTurned (old : List ℤ) (turned : Bool) (new : List ℤ) : Type 0 where
  pub length_is : length new ≡ length old
  pub numbers : (k : ℕ) → k < length old → top_at new k ≡ (if turned then neg_ℤ (top_at old k) else top_at old k)

-- the numbers are the whole numbers over the denominator
pub record AreOver (tops : List ℤ) (bottom : ℕ) (row : List Fraction) : Type 0 where
  pub length_is : length row ≡ length tops
  pub numbers : (k : ℕ) → k < length tops → number_at row k ≡ frac (top_at tops k) bottom

-- the denominator of each number divides d
abbrev pub DividesInto : List Fraction → ℕ → Type 0
DividesInto numbers d = (k : ℕ) → k < length numbers → (number_at numbers k).den ∣ d

-- the same whole numbers
pub record AreSame (old new : List ℤ) : Type 0 where
  pub length_is : length new ≡ length old
  pub numbers : (k : ℕ) → k < length old → top_at new k ≡ top_at old k

-- the divisor divides each of the numbers that are combined
abbrev pub DividesCombined : List ℤ → ℤ → List ℤ → ℤ → ℕ → Type 0
DividesCombined tops scale others factor d = (k : ℕ) → k < length tops → d ∣ unsigned_abs (top_at tops k *ℤ scale -ℤ top_at others k *ℤ factor)

-- no magnitude before the place is greater than the bound
pub record AreWithinBelow (tops : List ℤ) (bound k : ℕ) : Type 0 where
  pub within : (j : ℕ) → j < k → unsigned_abs (top_at tops j) ≤ bound

-- each number before the place, times the divisor, is the old one times the scale less the other row's times the factor
pub record IsOverBelow (old : List ℤ) (scale : ℤ) (other : List ℤ) (factor : ℤ) (d : ℕ) (quotients : List ℤ) (k : ℕ) : Type 0 where
  pub done : (j : ℕ) → j < k → top_at quotients j *ℤ pos d ≡ top_at old j *ℤ scale -ℤ top_at other j *ℤ factor
