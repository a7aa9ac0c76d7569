-- Numbers as they stand on a page.
use Rattle.std.specs.Prelude.{ℕ, ◌+◌, ◌*◌, ◌/◌, ◌%◌, ◌==◌, List, ◌++◌, Option, Some, None, if◌then◌else◌, codes, unsigned_abs}
use Rattle.fractions.specs.Fraction.{Fraction, ◌*ʳ◌}
use Rattle.fractions.specs.Print.{printed}
use Rattle.game_types.specs.Steps.{is_narrow}
use Rattle.page_parts.specs.Decimals.{decimal_text, is_below_zero}
use Rattle.page_parts.specs.declared.decimals.Nearest.{Nearest}

-- the magnitude of a fraction in thousandths, rounded, halves up
abbrev pub thousandths_of : Fraction → ℕ
thousandths_of x = (2 * (1000 * unsigned_abs x.num) + x.den) / (2 * x.den)

-- so many thousandths as a whole number and a rest
abbrev pub in_thousandths : ℕ → Nearest
in_thousandths count = record { whole = count / 1000; part = count % 1000 }

-- a fraction as a decimal of three places, halves away from 0
unfoldable pub near_text : Fraction → List ℕ
near_text x = decimal_text (is_below_zero x) (in_thousandths (thousandths_of x))

-- a whole number as it is, any other as a decimal
unfoldable pub short_text : Fraction → List ℕ
short_text x = if x.den == 1 then printed x else near_text x

-- a text with a longer one folded behind it
abbrev pub folded : List ℕ → List ℕ → List ℕ
folded shown behind = codes "<details class=\"f\"><summary>" ++ (shown ++ (codes "</summary><i>" ++ (behind ++ codes "</i></details>")))

-- a whole number as it is, any other as a decimal with the fraction behind it
unfoldable pub number_text : Fraction → List ℕ
number_text x = if x.den == 1 then printed x else folded (near_text x) (printed x)

-- the product, where it is within the limits of fractions
unfoldable pub product : Fraction → Fraction → Option Fraction
product x y = if is_narrow (x *ʳ y) then Some (x *ʳ y) else None
