-- What the reader answers is what the definition says.
use Rattle.std.specs.Prelude.{◌≡◌, ◌≢◌, ℕ, false, List, take, drop, Some, None, Result, Ok, Err}
use Rattle.std.proofs.Common.{sym, ap, subst, ◌∙◌}
use Rattle.std.proofs.lemmas.List.{take-append-drop}
use Rattle.fractions.specs.declared.numeral.NumeralFault.{NumeralFault}
use Rattle.fractions.specs.declared.numeral.NumeralFault.TheVariants.{NotNumeral, TooLarge as NumeralTooLarge}
use Rattle.fractions.specs.Fraction.{Fraction, ◌≤ʳ◌, ◌<ʳ◌}
use Rattle.fractions.specs.Numeral.{Numeral, magnitude, signed, numeral_value, limit}
use Rattle.fractions.specs.Reading as numerals
use Rattle.fractions.proofs.Order.{<ʳ_not_≤ʳ}
use Rattle.energy_units.specs.declared.EnergyFault.{EnergyFault}
use Rattle.energy_units.specs.declared.EnergyFault.TheVariants.{NoNumber, NoUnit, TooLarge}
use Rattle.energy_units.specs.declared.Measure.{Measure}
use Rattle.energy_units.specs.Energy.{Energy, BeginsWithNumber, WritesEnergy, IsModerate, GivesEnergy, Reads}
use Rattle.energy_units.specs.Split.{whole_len, number_len}
use Rattle.energy_units.specs.Scaled.{GivesScaled, IsEnergyOf, GivesParts}
use Rattle.energy_units.proofs.Front.{front_number, number_front, begins_whole, energy_front, energy_found, one_energy}

-- ---- values
pub unsigned_value : (n : Numeral) → n.negative ≡ false → numeral_value n ≡ magnitude n
unsigned_value n e = ap (λ b. signed b (magnitude n)) e

pub scaled_gives : (e : Energy) (x : Fraction) (k f : ℕ) (r : Result Fraction EnergyFault) → magnitude e.number <ʳ limit → x ≡ magnitude e.number → k ≡ e.power → f ≡ e.factor → GivesScaled r x k f → GivesEnergy r e
scaled_gives e x k f r h ex ek ef g = at e r h (subst (λ (j : ℕ). GivesScaled r (magnitude e.number) e.power j) ef (subst (λ (j : ℕ). GivesScaled r (magnitude e.number) j f) ek (subst (λ (y : Fraction). GivesScaled r y k f) ex g)))
  where
    at : (e : Energy) (r : Result Fraction EnergyFault) → magnitude e.number <ʳ limit → GivesScaled r (magnitude e.number) e.power e.factor → GivesEnergy r e
    at e (Ok y) h g = (record { number_below = h; prefixed_below = g.0 }, g.1)
    at e (Err TooLarge) h g = λ m. g m.prefixed_below
    at e (Err NoUnit) h g = absurd g
    at e (Err NoNumber) h g = absurd g

pub numeral_large : (f : NumeralFault) (n : Numeral) → numerals.GivesNumeral (Err f) n → limit ≤ʳ magnitude n
numeral_large NumeralTooLarge n g = g
numeral_large NotNumeral n g = absurd g

pub not_moderate : (e : Energy) → limit ≤ʳ magnitude e.number → ¬ IsModerate e
not_moderate e h m = <ʳ_not_≤ʳ (magnitude e.number) limit m.number_below h

pub gives_parts : (measure : Measure) (number behind : List ℕ) (e : Energy) (r : Result Fraction EnergyFault) → IsEnergyOf measure number behind e → GivesEnergy r e → GivesParts r measure number behind
gives_parts measure number behind e (Ok x) p g = (e, p, g)
gives_parts measure number behind e (Err TooLarge) p g = (e, p, g)
gives_parts measure number behind e (Err NoUnit) p g = absurd g
gives_parts measure number behind e (Err NoNumber) p g = absurd g

-- ---- texts
pub reads_parts : (measure : Measure) (text : List ℕ) (r : Result Fraction EnergyFault) → whole_len text ≢ 0 → GivesParts r measure (take (number_len text) text) (drop (number_len text) text) → Reads measure text r
reads_parts measure text (Ok x) h g = (g.0, energy_front measure text g.0 g.1, g.2)
reads_parts measure text (Err TooLarge) h g = (g.0, energy_front measure text g.0 g.1, g.2)
reads_parts measure text (Err NoNumber) h g = absurd g
reads_parts measure text (Err NoUnit) h g = (
  record { number_text = take (number_len text) text; rest = drop (number_len text) text; number = front_number text; number_is = number_front text h; text_is = sym (take-append-drop (number_len text) text) },
  λ e w. none_some e.factor (sym g ∙ (energy_found measure text e w).factor_is),
)
  where
    none_some : (f : ℕ) → None ≡ Some f → ⊥
    none_some f e = cc

pub unique_parts : (measure : Measure) (text : List ℕ) (r : Result Fraction EnergyFault) → GivesParts r measure (take (number_len text) text) (drop (number_len text) text) → (e : Energy) → WritesEnergy measure text e → GivesEnergy r e
unique_parts measure text (Ok x) g e w = subst (λ (d : Energy). GivesEnergy (Ok x) d) (one_energy measure text g.0 e (energy_front measure text g.0 g.1) w) g.2
unique_parts measure text (Err TooLarge) g e w = subst (λ (d : Energy). GivesEnergy (Err TooLarge) d) (one_energy measure text g.0 e (energy_front measure text g.0 g.1) w) g.2
unique_parts measure text (Err NoNumber) g e w = absurd g
unique_parts measure text (Err NoUnit) g e w = absurd (none_some e.factor (sym g ∙ (energy_found measure text e w).factor_is))
  where
    none_some : (f : ℕ) → None ≡ Some f → ⊥
    none_some f e = cc

pub no_number : (measure : Measure) (text : List ℕ) → whole_len text ≡ 0 → (¬ BeginsWithNumber text) × ((e : Energy) → ¬ WritesEnergy measure text e)
no_number measure text h = (λ b. begins_whole text b h, λ e w. (energy_found measure text e w).whole h)
