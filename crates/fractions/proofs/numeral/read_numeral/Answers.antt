use Rattle.std.proofs.Common.{sym, subst}
use Rattle.fractions.specs.Numeral.{Numeral}
use Rattle.fractions.specs.Reading.{GivesNumeral}
use Rattle.fractions.proofs.Grammar.{numeral_sound, power_digits}
use Rattle.fractions.proofs.ReadsAs.{reads_by, same_numeral, no_numeral}
use Rattle.fractions.proofs.numeral.read_numeral.Goals as goal

pub numeral_value-requires-clause-whole : goal.numeral_value-requires-clause-whole
numeral_value-requires-clause-whole c = (numeral_sound c.args.text.now c.in-Some.written (sym c.in-Some.ensures)).whole_is.digits

pub numeral_value-requires-clause-part : goal.numeral_value-requires-clause-part
numeral_value-requires-clause-part c = (numeral_sound c.args.text.now c.in-Some.written (sym c.in-Some.ensures)).part_is

pub numeral_value-requires-clause-power : goal.numeral_value-requires-clause-power
numeral_value-requires-clause-power c = power_digits _ _ _ (numeral_sound c.args.text.now c.in-Some.written (sym c.in-Some.ensures)).power_is

pub returns-in-Some-clause-reading : goal.returns-in-Some-clause-reading
returns-in-Some-clause-reading c =
    reads_by c.args.text.now c.in-Some.written c.numeral_value.result (numeral_sound c.args.text.now c.in-Some.written (sym c.in-Some.ensures)) c.numeral_value.ensures

pub returns-in-Some-clause-unique : goal.returns-in-Some-clause-unique
returns-in-Some-clause-unique c n w =
    subst (λ (m : Numeral). GivesNumeral c.numeral_value.result m) (same_numeral c.args.text.now c.in-Some.written n (sym c.in-Some.ensures) w) c.numeral_value.ensures

pub returns-in-None-clause-reading : goal.returns-in-None-clause-reading
returns-in-None-clause-reading c n w = no_numeral c.args.text.now n (sym c.in-None.ensures) w

pub returns-in-None-clause-unique : goal.returns-in-None-clause-unique
returns-in-None-clause-unique c n w = no_numeral c.args.text.now n (sym c.in-None.ensures) w
