use Rattle.solver_laws.proofs.Settling.{out, settled}
use Rattle.solver_laws.proofs.laws.answers_settle.Goals as goal

pub returns-clause-settled : goal.returns-clause-settled
returns-clause-settled c = settled

pub returns-clause-out : goal.returns-clause-out
returns-clause-out c = out
