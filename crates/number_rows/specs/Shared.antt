-- What a number and a denominator have in common.
use Rattle.std.specs.Prelude.{◌≡◌, ℕ, ◌*◌, ◌<◌, ◌^◌, ℤ, pos, ◌*ℤ◌, unsigned_abs}

-- the common divisor times the scale is the denominator, and times the factor the number
pub record IsShared (top : ℤ) (bottom common scale : ℕ) (factor : ℤ) : Type 0 where
  pub bottom_is : scale * common ≡ bottom
  pub top_is : factor *ℤ pos common ≡ top
  pub scale_small : scale < 2 ^ 62
  pub factor_small : unsigned_abs factor < 2 ^ 62
