-- Numbers of the script.
use Rattle.std.specs.Prelude.{◌≡◌, ◌≢◌, ℕ, List, Option, Some, None, Ok, Err, MatchOption}
use Rattle.std.proofs.Common.{⊎_elim}
use Rattle.fractions.specs.declared.numeral.NumeralFault.{NumeralFault}
use Rattle.fractions.specs.declared.numeral.NumeralFault.TheVariants.{NotNumeral, TooLarge}
use Rattle.fractions.specs.Fraction.{Fraction}
use Rattle.fractions.specs.Numeral.{Numeral, Writes, magnitude, limit}
use Rattle.fractions.specs.Quotient.{Quotient, WritesQuotient}
use Rattle.fractions.specs.Reading.{GivesNumeral, GivesQuotient, ReadsRatio}
use Rattle.fractions.proofs.Order.{<ʳ_not_≤ʳ}
use Rattle.script_reader.specs.declared.fault.ScriptFault.{ScriptFault}
use Rattle.script_reader.specs.declared.fault.ScriptFault.TheVariants.{UnknownCommand, WrongWords, BadNumber, BadQuoting, BadObject, NoMemory}
use Rattle.script_reader.specs.Reading.{the_one, Answers}
use Rattle.script_reader.specs.Arguments.{ratio, ratio_or}

-- what is refused has no value
pub no_ratio : (text : List ℕ) (fault : NumeralFault) → ((n : Numeral) → Writes text n → GivesNumeral (Err fault) n) → ((q : Quotient) → WritesQuotient text q → GivesQuotient (Err fault) q) → (x : Fraction) → ¬ ReadsRatio text (Ok x)
no_ratio text NotNumeral f g x h = ⊎_elim (λ n. f n.0 n.1) (λ q. g q.0 q.1) h
no_ratio text TooLarge f g x h = ⊎_elim (λ n. <ʳ_not_≤ʳ (magnitude n.0) limit n.2.0 (f n.0 n.1)) (λ q. g q.0 q.1 q.2.0) h

none_or : (other word : List ℕ) → word ≢ other → ((x : Fraction) → ¬ ReadsRatio word (Ok x)) → (x : Option Fraction) → ¬ (MatchOption x (word ≡ other) (λ y. (word ≢ other) × ReadsRatio word (Ok y)))
none_or other word d h None k = d k
none_or other word d h (Some x) k = h x k.1

-- where another word may stand
pub ratio_other : (other word : List ℕ) (fault : ScriptFault) → word ≢ other → Answers (ratio word) (Err fault) → Answers (ratio_or other word) (Err fault)
unfolding Answers the_one
ratio_other other word NoMemory d h = tt
ratio_other other word UnknownCommand d h = (h.0, none_or other word d h.1)
ratio_other other word WrongWords d h = (h.0, none_or other word d h.1)
ratio_other other word BadNumber d h = (h.0, none_or other word d h.1)
ratio_other other word BadQuoting d h = (h.0, none_or other word d h.1)
ratio_other other word BadObject d h = (h.0, none_or other word d h.1)
