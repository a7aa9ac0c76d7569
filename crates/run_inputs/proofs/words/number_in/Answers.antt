use Rattle.run_inputs.proofs.NumberLemmas.{number_found}
use Rattle.run_inputs.proofs.words.number_in.Goals as goal

pub returns-clause-number : goal.returns-clause-number
returns-clause-number c = number_found c.args.least c.args.most c.args.word.now c.count_at.result c.count_at.ensures.found c.count_at.ensures.every
