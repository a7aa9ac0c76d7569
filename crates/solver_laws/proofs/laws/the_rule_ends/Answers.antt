use Rattle.solver_laws.proofs.Going.{alone, ends, fewer}
use Rattle.solver_laws.proofs.laws.the_rule_ends.Goals as goal

pub returns-clause-fewer : goal.returns-clause-fewer
returns-clause-fewer c = fewer

pub returns-clause-ends : goal.returns-clause-ends
returns-clause-ends c = ends

pub returns-clause-alone : goal.returns-clause-alone
returns-clause-alone c = alone
