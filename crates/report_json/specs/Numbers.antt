-- The decimal beside an exact number: the nearest one of three places, halves away from 0.
use Rattle.std.specs.Prelude.{ℕ, ◌+◌, ◌*◌, ◌/◌, ◌%◌, List, unsigned_abs}
use Rattle.fractions.specs.Fraction.{Fraction}
use Rattle.page_parts.specs.Decimals.{decimal_text, is_below_zero}
use Rattle.page_parts.specs.declared.decimals.Nearest.{Nearest}

-- the magnitude in thousandths, to the nearest whole number
abbrev pub thousandths_of : Fraction → ℕ
thousandths_of x = (2 * (1000 * unsigned_abs x.num) + x.den) / (2 * x.den)

abbrev pub nearest : Fraction → Nearest
nearest x = record { whole = thousandths_of x / 1000; part = thousandths_of x % 1000 }

unfoldable pub decimal_of : Fraction → List ℕ
decimal_of x = decimal_text (is_below_zero x) (nearest x)
