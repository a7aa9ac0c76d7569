-- Numbers of few digits, times powers of ten.
use Rattle.std.specs.Prelude.{◌≡◌, ℕ, ◌^◌, pos, List, Some, None, Result, Ok, Err}
use Rattle.fractions.specs.Fraction.{Fraction, whole_fraction, ◌*ʳ◌, ◌<ʳ◌}
use Rattle.fractions.specs.Numeral.{Numeral}
use Rattle.energy_units.specs.Energy.{Energy, WritesNumber, GivesEnergy}
use Rattle.energy_units.specs.Split.{behind_prefix, factor_of}
use Rattle.energy_units.specs.declared.Measure.{Measure}
use Rattle.energy_units.specs.declared.EnergyFault.{EnergyFault}
use Rattle.energy_units.specs.declared.EnergyFault.TheVariants.{NoNumber, NoUnit, TooLarge}

-- what a number times a power of ten and a factor is read as
abbrev pub GivesScaled : Result Fraction EnergyFault → Fraction → ℕ → ℕ → Type 0
GivesScaled (Ok x) number power factor = (number *ʳ whole_fraction (pos (10 ^ power)) <ʳ whole_fraction (pos (10 ^ 30))) × (x ≡ number *ʳ whole_fraction (pos (10 ^ power)) *ʳ whole_fraction (pos factor))
GivesScaled (Err TooLarge) number power factor = ¬ (number *ʳ whole_fraction (pos (10 ^ power)) <ʳ whole_fraction (pos (10 ^ 30)))
GivesScaled (Err NoNumber) number power factor = ⊥
GivesScaled (Err NoUnit) number power factor = ⊥

-- ---- the parts that the reader takes a text apart into
pub record IsNumberText (text : List ℕ) : Type 0 where
  pub number : Numeral
  pub number_is : WritesNumber text number

-- a number's text and the text behind it say this energy
pub record IsEnergyOf (measure : Measure) (number behind : List ℕ) (e : Energy) : Type 0 where
  pub number_is : WritesNumber number e.number
  pub power_is : (behind_prefix behind).0 ≡ e.power
  pub factor_is : factor_of measure (behind_prefix behind).1 ≡ Some e.factor

abbrev pub GivesParts : Result Fraction EnergyFault → Measure → List ℕ → List ℕ → Type 0
GivesParts (Ok x) measure number behind = (e : Energy) × IsEnergyOf measure number behind e × GivesEnergy (Ok x) e
GivesParts (Err TooLarge) measure number behind = (e : Energy) × IsEnergyOf measure number behind e × GivesEnergy (Err TooLarge) e
GivesParts (Err NoUnit) measure number behind = factor_of measure (behind_prefix behind).1 ≡ None
GivesParts (Err NoNumber) measure number behind = ⊥
