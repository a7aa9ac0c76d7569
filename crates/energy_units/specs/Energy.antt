-- Energy texts: a number, a prefix of the International System of Units (with `K` for kilo too), and a unit. The form is
-- that of the game's prototypes.
use Rattle.std.specs.Prelude.{◌≡◌, ℕ, ◌^◌, pos, false, List, [], ◌∷◌, ◌++◌, Option, Some, None, Result, Ok, Err, if◌then◌else◌, ◌==◌, ◌||◌}
use Rattle.fractions.specs.Fraction.{Fraction, whole_fraction, ◌*ʳ◌, ◌<ʳ◌}
use Rattle.fractions.specs.Numeral.{Numeral, Writes, magnitude, limit}
use Rattle.energy_units.specs.declared.EnergyFault.{EnergyFault}
use Rattle.energy_units.specs.declared.EnergyFault.TheVariants.{NoNumber, NoUnit, TooLarge}
use Rattle.energy_units.specs.declared.Measure.{Measure}
use Rattle.energy_units.specs.declared.Measure.TheVariants.{Joules, Watts}

-- the power of ten that a prefix's letter stands for: k, K, M, G, T, P, E, Z, Y
abbrev pub letter_power : ℕ → Option ℕ
letter_power c =
    if c == 107 || c == 75 then Some 3
    else if c == 77 then Some 6
    else if c == 71 then Some 9
    else if c == 84 then Some 12
    else if c == 80 then Some 15
    else if c == 69 then Some 18
    else if c == 90 then Some 21
    else if c == 89 then Some 24
    else None

-- a prefix is a letter, or nothing
abbrev pub prefix_power : List ℕ → Option ℕ
prefix_power [] = Some 0
prefix_power (c ∷ []) = letter_power c
prefix_power (c ∷ d ∷ cs) = None

-- Energies are in joules, `J`. Powers are in watts, `W`; `J` in a power is joules per tick, of which a second has 60.
abbrev pub unit_factor : Measure → ℕ → Option ℕ
unit_factor Joules c = if c == 74 then Some 1 else None
unit_factor Watts c = if c == 87 then Some 1 else if c == 74 then Some 60 else None

-- the text writes a number with no sign and no exponent
pub record WritesNumber (text : List ℕ) (n : Numeral) : Type 0 where
  pub numeral : Writes text n
  pub unsigned : n.negative ≡ false
  pub no_power : n.power ≡ []

-- what an energy text says: a number, the power of ten of its prefix, and the factor of its unit
pub record Energy : Type 0 where
  pub number : Numeral
  pub power : ℕ
  pub factor : ℕ

pub record WritesEnergy (measure : Measure) (text : List ℕ) (e : Energy) : Type 0 where
  pub number_text : List ℕ
  pub prefix : List ℕ
  pub unit : ℕ
  pub number_is : WritesNumber number_text e.number
  pub prefix_is : prefix_power prefix ≡ Some e.power
  pub unit_is : unit_factor measure unit ≡ Some e.factor
  pub text_is : text ≡ number_text ++ (prefix ++ unit ∷ [])

-- the number, rounded as a numeral, times the power of ten of its prefix, exactly
abbrev pub prefixed : Energy → Fraction
prefixed e = magnitude e.number *ʳ whole_fraction (pos (10 ^ e.power))

abbrev pub energy_value : Energy → Fraction
energy_value e = prefixed e *ʳ whole_fraction (pos e.factor)

-- the number is below 10 ^ 18, and with its prefix below 10 ^ 30
pub record IsModerate (e : Energy) : Type 0 where
  pub number_below : magnitude e.number <ʳ limit
  pub prefixed_below : prefixed e <ʳ whole_fraction (pos (10 ^ 30))

-- what an energy is read as
abbrev pub GivesEnergy : Result Fraction EnergyFault → Energy → Type 0
GivesEnergy (Ok x) e = IsModerate e × (x ≡ energy_value e)
GivesEnergy (Err TooLarge) e = ¬ IsModerate e
GivesEnergy (Err NoNumber) e = ⊥
GivesEnergy (Err NoUnit) e = ⊥

pub record BeginsWithNumber (text : List ℕ) : Type 0 where
  pub number_text : List ℕ
  pub rest : List ℕ
  pub number : Numeral
  pub number_is : WritesNumber number_text number
  pub text_is : text ≡ number_text ++ rest

-- what a text is read as
abbrev pub Reads : Measure → List ℕ → Result Fraction EnergyFault → Type 0
Reads measure text (Ok x) = (e : Energy) × WritesEnergy measure text e × GivesEnergy (Ok x) e
Reads measure text (Err TooLarge) = (e : Energy) × WritesEnergy measure text e × GivesEnergy (Err TooLarge) e
Reads measure text (Err NoNumber) = ¬ BeginsWithNumber text
Reads measure text (Err NoUnit) = BeginsWithNumber text × ((e : Energy) → ¬ WritesEnergy measure text e)
