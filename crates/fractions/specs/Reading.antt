-- What the readers answer.
use Rattle.std.specs.Prelude.{◌≡◌, ℕ, List, Result, Ok, Err, ◌⊎◌}
use Rattle.fractions.specs.declared.numeral.NumeralFault.{NumeralFault}
use Rattle.fractions.specs.declared.numeral.NumeralFault.TheVariants.{NotNumeral, TooLarge}
use Rattle.fractions.specs.Fraction.{Fraction, ◌≤ʳ◌, ◌<ʳ◌}
use Rattle.fractions.specs.Numeral.{Numeral, Writes, magnitude, numeral_value, limit}
use Rattle.fractions.specs.Quotient.{Quotient, WritesQuotient, IsModerate, quotient_value}

-- what a magnitude is read as
abbrev pub GivesMagnitude : Result Fraction NumeralFault → Fraction → Type 0
GivesMagnitude (Ok x) m = (x <ʳ limit) × (x ≡ m)
GivesMagnitude (Err TooLarge) m = limit ≤ʳ m
GivesMagnitude (Err NotNumeral) m = ⊥

-- what a numeral is read as: its value, or a fault where that is too large
abbrev pub GivesNumeral : Result Fraction NumeralFault → Numeral → Type 0
GivesNumeral (Ok x) n = (magnitude n <ʳ limit) × (x ≡ numeral_value n)
GivesNumeral (Err TooLarge) n = limit ≤ʳ magnitude n
GivesNumeral (Err NotNumeral) n = ⊥

-- what a text is read as where only numerals are taken
abbrev pub ReadsNumeral : List ℕ → Result Fraction NumeralFault → Type 0
ReadsNumeral text (Ok x) = (n : Numeral) × Writes text n × GivesNumeral (Ok x) n
ReadsNumeral text (Err TooLarge) = (n : Numeral) × Writes text n × GivesNumeral (Err TooLarge) n
ReadsNumeral text (Err NotNumeral) = (n : Numeral) → ¬ Writes text n

-- what a quotient is read as
abbrev pub GivesQuotient : Result Fraction NumeralFault → Quotient → Type 0
GivesQuotient (Ok x) q = IsModerate q × (x ≡ quotient_value q)
GivesQuotient (Err TooLarge) q = ¬ IsModerate q
GivesQuotient (Err NotNumeral) q = ⊥

-- what a text is read as where numerals and quotients are taken
abbrev pub ReadsRatio : List ℕ → Result Fraction NumeralFault → Type 0
ReadsRatio text (Ok x) = ((n : Numeral) × Writes text n × GivesNumeral (Ok x) n) ⊎ ((q : Quotient) × WritesQuotient text q × GivesQuotient (Ok x) q)
ReadsRatio text (Err TooLarge) = ((n : Numeral) × Writes text n × GivesNumeral (Err TooLarge) n) ⊎ ((q : Quotient) × WritesQuotient text q × GivesQuotient (Err TooLarge) q)
ReadsRatio text (Err NotNumeral) = ((n : Numeral) → ¬ Writes text n) × ((q : Quotient) → ¬ WritesQuotient text q)
