use Rattle.std.proofs.Common.{sym}
use Rattle.fractions.proofs.Grammar.{quotient_sound, numeral_sound}
use Rattle.fractions.proofs.Printed.{found_quotient, found_whole, every_quotient, every_whole, every_none}
use Rattle.fractions.proofs.plain.read_printed.Goals as goal

pub plain_quotient-requires-clause-top : goal.plain_quotient-requires-clause-top
plain_quotient-requires-clause-top c = (quotient_sound c.args.text.now c.in-Some.written (sym c.in-Some.ensures)).top_is.digits

pub plain_quotient-requires-clause-bottom : goal.plain_quotient-requires-clause-bottom
plain_quotient-requires-clause-bottom c = (quotient_sound c.args.text.now c.in-Some.written (sym c.in-Some.ensures)).bottom_is.digits

pub plain_quotient-requires-clause-nonzero : goal.plain_quotient-requires-clause-nonzero
plain_quotient-requires-clause-nonzero c = (quotient_sound c.args.text.now c.in-Some.written (sym c.in-Some.ensures)).nonzero

pub plain_whole-requires : goal.plain_whole-requires
plain_whole-requires c = (numeral_sound c.args.text.now c.in-Some-numeral_parts.written (sym c.in-Some-numeral_parts.ensures)).whole_is.digits

pub returns-in-Some-clause-found : goal.returns-in-Some-clause-found
returns-in-Some-clause-found c = found_quotient c.args.text.now c.in-Some.written c.plain_quotient.result (sym c.in-Some.ensures) c.plain_quotient.ensures

pub returns-in-Some-clause-every : goal.returns-in-Some-clause-every
returns-in-Some-clause-every c = every_quotient c.args.text.now c.in-Some.written c.plain_quotient.result (sym c.in-Some.ensures) c.plain_quotient.ensures

pub returns-in-Some-numeral_parts-clause-found : goal.returns-in-Some-numeral_parts-clause-found
returns-in-Some-numeral_parts-clause-found c = found_whole c.args.text.now c.in-Some-numeral_parts.written c.plain_whole.result (sym c.in-Some-numeral_parts.ensures) c.plain_whole.ensures

pub returns-in-Some-numeral_parts-clause-every : goal.returns-in-Some-numeral_parts-clause-every
returns-in-Some-numeral_parts-clause-every c = every_whole c.args.text.now c.in-Some-numeral_parts.written c.plain_whole.result (sym c.in-None.ensures) (sym c.in-Some-numeral_parts.ensures) c.plain_whole.ensures

pub returns-in-None-numeral_parts-clause-every : goal.returns-in-None-numeral_parts-clause-every
returns-in-None-numeral_parts-clause-every c x w t = absurd (every_none c.args.text.now (sym c.in-None.ensures) (sym c.in-None-numeral_parts.ensures) x w t)
