use Rattle.solver_laws.proofs.Settling.{settles_from, some_budget}
use Rattle.solver_laws.proofs.laws.budgets_settle.Goals as goal

pub returns-clause-trail : goal.returns-clause-trail
returns-clause-trail c = settles_from

pub returns-clause-some : goal.returns-clause-some
returns-clause-some c = some_budget
