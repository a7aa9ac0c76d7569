-- A fraction as a decimal of three places: the nearest one, halves away from 0.
use Rattle.std.specs.Prelude.{ℕ, ℤ, pos, negsuc, true, false, ◌+◌, ◌*◌, ◌/◌, ◌%◌, ◌<◌, ◌≤◌, Bool, List, [], ◌++◌, if◌then◌else◌, codes, decimal, unsigned_abs}
use Rattle.fractions.specs.Fraction.{Fraction}
use Rattle.page_parts.specs.declared.decimals.Nearest.{Nearest}

-- how many thousandths
abbrev pub thousandths : Nearest → ℕ
thousandths near = 1000 * near.whole + near.part

-- so many thousandths are at most half a one away from the magnitude, and where they are half a one away they are more: in whole
-- numbers, with the denominator on the other side
pub record IsNearest (x : Fraction) (near : Nearest) : Type 0 where
  pub part : near.part < 1000
  pub not_over : 2 * (thousandths near * x.den) ≤ 2 * (1000 * unsigned_abs x.num) + x.den
  pub not_under : 2 * (1000 * unsigned_abs x.num) + x.den < 2 * (thousandths near * x.den) + 2 * x.den

-- the whole number, a point, and three digits
abbrev pub magnitude_text : Nearest → List ℕ
magnitude_text near = decimal near.whole ++ (codes "." ++ (decimal (near.part / 100) ++ (decimal (near.part / 10 % 10) ++ decimal (near.part % 10))))

abbrev pub is_below : ℤ → Bool
is_below (pos n) = false
is_below (negsuc n) = true

abbrev pub is_below_zero : Fraction → Bool
is_below_zero x = is_below x.num

-- a minus before a fraction below 0
abbrev pub decimal_text : Bool → Nearest → List ℕ
decimal_text negative near = if negative then (codes "-" ++ magnitude_text near) else magnitude_text near
