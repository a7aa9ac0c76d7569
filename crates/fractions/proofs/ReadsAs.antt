-- What the readers answer, from the numeral that a text writes.
use Rattle.std.specs.Prelude.{◌≡◌, List, ℕ, Result, Ok, Err, Some, None}
use Rattle.std.proofs.Common.{inl, inr}
use Rattle.fractions.specs.declared.numeral.NumeralFault.{NumeralFault}
use Rattle.fractions.specs.declared.numeral.NumeralFault.TheVariants.{NotNumeral, TooLarge}
use Rattle.fractions.specs.Fraction.{Fraction}
use Rattle.fractions.specs.Numeral.{Numeral, Writes}
use Rattle.fractions.specs.Split.{numeral_of, quotient_of}
use Rattle.fractions.specs.Reading.{GivesNumeral, GivesQuotient, ReadsNumeral, ReadsRatio}
use Rattle.fractions.specs.Quotient.{Quotient, WritesQuotient}
use Rattle.fractions.proofs.Grammar.{numeral_found, quotient_found, quotient_no_numeral}

pub reads_by : (text : List ℕ) (n : Numeral) (r : Result Fraction NumeralFault) → Writes text n → GivesNumeral r n → ReadsNumeral text r
reads_by text n (Ok x) w g = (n, w, g)
reads_by text n (Err TooLarge) w g = (n, w, g)
reads_by text n (Err NotNumeral) w g = absurd g

pub same_numeral : (text : List ℕ) (n m : Numeral) → numeral_of text ≡ Some n → Writes text m → n ≡ m
same_numeral text n m e w = let f : numeral_of text ≡ Some m = numeral_found text m w in cc

pub no_numeral : (text : List ℕ) (m : Numeral) → numeral_of text ≡ None → Writes text m → ⊥
no_numeral text m e w = let f : numeral_of text ≡ Some m = numeral_found text m w in cc

-- ---- quotients
pub reads_quotient : (text : List ℕ) (q : Quotient) (r : Result Fraction NumeralFault) → WritesQuotient text q → GivesQuotient r q → ReadsRatio text r
reads_quotient text q (Ok x) w g = inr (q, w, g)
reads_quotient text q (Err TooLarge) w g = inr (q, w, g)
reads_quotient text q (Err NotNumeral) w g = absurd g

pub same_quotient : (text : List ℕ) (p q : Quotient) → quotient_of text ≡ Some p → WritesQuotient text q → p ≡ q
same_quotient text p q e w = let f : quotient_of text ≡ Some q = quotient_found text q w in cc

pub no_quotient : (text : List ℕ) (q : Quotient) → quotient_of text ≡ None → WritesQuotient text q → ⊥
no_quotient text q e w = let f : quotient_of text ≡ Some q = quotient_found text q w in cc

pub not_both : (text : List ℕ) (n : Numeral) (q : Quotient) → Writes text n → WritesQuotient text q → ⊥
not_both text n q w v = no_numeral text n (quotient_no_numeral text q v) w

pub reads_ratio : (text : List ℕ) (r : Result Fraction NumeralFault) → quotient_of text ≡ None → ReadsNumeral text r → ReadsRatio text r
reads_ratio text (Ok x) e h = inl h
reads_ratio text (Err TooLarge) e h = inl h
reads_ratio text (Err NotNumeral) e h = (h, λ q w. no_quotient text q e w)
