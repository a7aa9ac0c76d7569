-- Rates and powers in the units between which a page switches: what is shown is one of the parts, by their classes.
use Rattle.std.specs.Prelude.{ℕ, ℤ, pos, ◌/◌, ◌==◌, nat_lt, List, ◌∷◌, ◌++◌, Option, Some, None, if◌then◌else◌, codes}
use Rattle.fractions.specs.Fraction.{Fraction, frac, whole_fraction}
use Rattle.fractions.specs.Print.{printed}
use Rattle.page_rows.specs.Numbers.{folded, number_text, product, short_text, thousandths_of}

-- a figure that is past the limits of fractions is wide
abbrev pub figure_text : Option Fraction → List ℕ
figure_text None = codes "wide"
figure_text (Some number) = number_text number

abbrev pub per_minute : Fraction → Option Fraction
per_minute rate = product rate (whole_fraction (pos 60))

-- per second, and per minute
unfoldable pub rate_text : Fraction → List ℕ
rate_text rate = codes "<span class=\"s\">" ++ (number_text rate ++ (codes "</span><span class=\"m\">" ++ (figure_text (per_minute rate) ++ codes "</span>")))

-- ---- powers
abbrev pub thousandth : Fraction
thousandth = frac (pos 1) 1_000

abbrev pub millionth : Fraction
millionth = frac (pos 1) 1_000_000

abbrev pub billionth : Fraction
billionth = frac (pos 1) 1_000_000_000

-- a number of a unit; where it isn't whole, the watts are folded behind it
unfoldable pub power_as : Fraction → Fraction → List ℕ → List ℕ
power_as watts shown unit = if shown.den == 1 then (short_text shown ++ 32 ∷ unit) else folded (short_text shown ++ 32 ∷ unit) (printed watts ++ codes " W")

-- a power in a unit, in watts where it can't be told in that
abbrev pub power_by : Fraction → List ℕ → Option Fraction → List ℕ
power_by watts unit (Some shown) = power_as watts shown unit
power_by watts unit None = power_as watts watts (codes "W")

abbrev pub power_in : Fraction → Fraction → List ℕ → List ℕ
power_in watts part unit = power_by watts unit (product watts part)

-- in the unit of which it has between one and a thousand
unfoldable pub best_power : Fraction → List ℕ
best_power watts =
    if nat_lt (thousandths_of watts / 1000) 1_000 then power_as watts watts (codes "W")
    else if nat_lt (thousandths_of watts / 1000) 1_000_000 then power_in watts thousandth (codes "kW")
    else if nat_lt (thousandths_of watts / 1000) 1_000_000_000 then power_in watts millionth (codes "MW")
    else power_in watts billionth (codes "GW")

-- in the best unit, in kilowatts, in megawatts
unfoldable pub power_text : Fraction → List ℕ
power_text watts =
    codes "<span class=\"p\">" ++ (best_power watts ++ (codes "</span><span class=\"k\">" ++ (power_in watts thousandth (codes "kW") ++ (codes "</span><span class=\"w\">" ++ (power_in watts millionth (codes "MW") ++ codes "</span>")))))

abbrev pub power_figure : Option Fraction → List ℕ
power_figure None = codes "wide"
power_figure (Some watts) = power_text watts
