use Rattle.prototype_fields.proofs.NumbersLemmas.{numeral_is, numeral_small}
use Rattle.prototype_fields.proofs.numbers.numeral.Goals as goal

pub returns-clause-value : goal.returns-clause-value
returns-clause-value c = numeral_is c.args.text.now c.read_numeral.result c.read_numeral.ensures.reading

pub returns-clause-small : goal.returns-clause-small
returns-clause-small c = numeral_small c.args.text.now c.read_numeral.result c.read_numeral.ensures.reading
