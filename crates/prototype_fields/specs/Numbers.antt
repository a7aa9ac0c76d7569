-- The value of a numeral and of an energy text as a function. `fractions` and `energy_units` say which numeral a text
-- writes and what it is worth; a text writes one at most.
use Rattle.std.specs.Prelude.{ℕ, ◌^◌, Bool, if◌then◌else◌, ◌||◌, ℤ, pos, negsuc, ◌*ℤ◌, List, Option, Some, None, take, drop, ◌==◌, not, nat_le, Result, Ok, Err}
use Rattle.std.specs.Int.RustNames.{int_div, int_lt}
use Rattle.fractions.specs.Fraction.{Fraction, whole_fraction, ◌*ʳ◌}
use Rattle.fractions.specs.Numeral.{Numeral, magnitude, numeral_value, limit}
use Rattle.fractions.specs.Split.{numeral_of}
use Rattle.fractions.specs.declared.numeral.NumeralFault.{NumeralFault}
use Rattle.fractions.specs.declared.numeral.NumeralFault.TheVariants as numeral_fault
use Rattle.energy_units.specs.Split.{whole_len, number_len, behind_prefix, factor_of}
use Rattle.energy_units.specs.declared.EnergyFault.{EnergyFault}
use Rattle.energy_units.specs.declared.EnergyFault.TheVariants as energy_fault
use Rattle.energy_units.specs.declared.Measure.{Measure}

-- whether a fraction is less than another
abbrev pub is_less : Fraction → Fraction → Bool
is_less x y = int_lt (x.num *ℤ pos y.den) (y.num *ℤ pos x.den)

-- ---- numerals
abbrev pub value_below_limit : Option Numeral → Result Fraction NumeralFault
value_below_limit None = Err numeral_fault.NotNumeral
value_below_limit (Some n) = if is_less (magnitude n) limit then Ok (numeral_value n) else Err numeral_fault.TooLarge

-- the value of the numeral that a text writes
unfoldable pub numeral_reading : List ℕ → Result Fraction NumeralFault
numeral_reading text = value_below_limit (numeral_of text)

-- ---- energies
-- a number times a power of ten, exactly, which is below 10 ^ 30, and then times the factor of its unit
abbrev pub scaled : Result Fraction NumeralFault → ℕ → ℕ → Result Fraction EnergyFault
scaled (Err fault) power factor = Err energy_fault.TooLarge
scaled (Ok number) power factor = if is_less (number *ʳ whole_fraction (pos (10 ^ power))) (whole_fraction (pos (10 ^ 30))) then Ok (number *ʳ whole_fraction (pos (10 ^ power)) *ʳ whole_fraction (pos factor)) else Err energy_fault.TooLarge

abbrev pub with_factor : List ℕ → ℕ → Option ℕ → Result Fraction EnergyFault
with_factor number power None = Err energy_fault.NoUnit
with_factor number power (Some factor) = scaled (numeral_reading number) power factor

abbrev pub with_unit : Measure → List ℕ → ℕ × List ℕ → Result Fraction EnergyFault
with_unit measure number behind = with_factor number behind.0 (factor_of measure behind.1)

-- the value of the energy that a text writes: the longest number at its front, a prefix or nothing, and a unit
unfoldable pub energy_reading : Measure → List ℕ → Result Fraction EnergyFault
energy_reading measure text = if whole_len text == 0 then Err energy_fault.NoNumber else with_unit measure (take (number_len text) text) (behind_prefix (drop (number_len text) text))

-- ---- ranges
abbrev pub is_whole_negative : ℤ → Bool
is_whole_negative n = int_lt n (pos 0)

-- whether a number is at least 0
abbrev pub is_amount : Fraction → Bool
is_amount x = not (is_whole_negative x.num)

abbrev pub up_to_65535 : ℤ → Option ℕ
up_to_65535 (pos n) = if nat_le n 65535 then Some n else None
up_to_65535 (negsuc n) = None

-- a whole number of at most 65,535
abbrev pub small_whole : Fraction → Option ℕ
small_whole x = if x.den == 1 then up_to_65535 x.num else None

-- a number of magnitude at most 1,000,000, in hundredths, cut toward zero
abbrev pub hundredths : Fraction → Option ℤ
hundredths x = if is_less (whole_fraction (pos 1000000)) x || is_less x (whole_fraction (negsuc 999999)) then None else Some (int_div (x.num *ℤ pos 100) (pos x.den))
