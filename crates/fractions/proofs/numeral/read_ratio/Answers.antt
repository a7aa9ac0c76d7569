use Rattle.std.proofs.Common.{sym, subst}
use Rattle.fractions.specs.Quotient.{Quotient}
use Rattle.fractions.specs.Reading.{GivesQuotient}
use Rattle.fractions.proofs.Grammar.{quotient_sound}
use Rattle.fractions.proofs.ReadsAs.{reads_quotient, same_quotient, no_quotient, not_both, reads_ratio}
use Rattle.fractions.proofs.numeral.read_ratio.Goals as goal

pub quotient_value-requires-clause-top : goal.quotient_value-requires-clause-top
quotient_value-requires-clause-top c = (quotient_sound c.args.text.now c.in-Some.written (sym c.in-Some.ensures)).top_is.digits

pub quotient_value-requires-clause-bottom : goal.quotient_value-requires-clause-bottom
quotient_value-requires-clause-bottom c = (quotient_sound c.args.text.now c.in-Some.written (sym c.in-Some.ensures)).bottom_is.digits

pub quotient_value-requires-clause-nonzero : goal.quotient_value-requires-clause-nonzero
quotient_value-requires-clause-nonzero c = (quotient_sound c.args.text.now c.in-Some.written (sym c.in-Some.ensures)).nonzero

pub returns-in-Some-clause-reading : goal.returns-in-Some-clause-reading
returns-in-Some-clause-reading c =
    reads_quotient c.args.text.now c.in-Some.written c.quotient_value.result (quotient_sound c.args.text.now c.in-Some.written (sym c.in-Some.ensures)) c.quotient_value.ensures

pub returns-in-Some-clause-numeral : goal.returns-in-Some-clause-numeral
returns-in-Some-clause-numeral c n w = absurd (not_both c.args.text.now n c.in-Some.written w (quotient_sound c.args.text.now c.in-Some.written (sym c.in-Some.ensures)))

pub returns-in-Some-clause-quotient : goal.returns-in-Some-clause-quotient
returns-in-Some-clause-quotient c q w =
    subst (λ (p : Quotient). GivesQuotient c.quotient_value.result p) (same_quotient c.args.text.now c.in-Some.written q (sym c.in-Some.ensures) w) c.quotient_value.ensures

pub returns-in-None-clause-reading : goal.returns-in-None-clause-reading
returns-in-None-clause-reading c = reads_ratio c.args.text.now c.read_numeral.result (sym c.in-None.ensures) c.read_numeral.ensures.reading

pub returns-in-None-clause-quotient : goal.returns-in-None-clause-quotient
returns-in-None-clause-quotient c q w = absurd (no_quotient c.args.text.now q (sym c.in-None.ensures) w)
