-- Quotients of numbers that are combined, place by place.
use Rattle.std.specs.Prelude.{◌≡◌, ℕ, ◌*◌, ◌/◌, ◌<◌, ◌≤◌, ◌^◌, ℤ, pos, ◌*ℤ◌, List}
use Rattle.std.specs.Int.{◌∣◌}
use Rattle.number_rows.specs.Tops.{top_at, AreWithinBelow, IsOverBelow}

-- the quotients before a place are those of the numbers that are combined, none is greater than the bound, and all others are 0
pub record IsLoweredBelow (old : List ℤ) (scale : ℤ) (other : List ℤ) (factor : ℤ) (d bound : ℕ) (quotients : List ℤ) (k : ℕ) : Type 0 where
  pub positive : 0 < d
  pub divisor_small : d < 2 ^ 62
  pub bound_small : bound < 2 ^ 62
  pub done : IsOverBelow old scale other factor d quotients k
  pub within : AreWithinBelow quotients bound k
  pub rest : (j : ℕ) → k ≤ j → top_at quotients j ≡ pos 0

-- quotients by a divisor of the divisor: those before a place are as many times as great
pub record IsRaised (d bound : ℕ) (old : List ℤ) (k e raised : ℕ) (new : List ℤ) : Type 0 where
  pub positive : 0 < e
  pub divides : e ∣ d
  pub small : raised < 2 ^ 62
  pub bound_is : raised ≡ bound * (d / e)
  pub numbers : (j : ℕ) → j < k → top_at new j ≡ top_at old j *ℤ pos (d / e)
  pub rest : (j : ℕ) → k ≤ j → top_at new j ≡ top_at old j
