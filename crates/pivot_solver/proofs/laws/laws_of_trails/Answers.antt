use Rattle.linear_table.specs.Basis.{system_of}
use Rattle.linear_table.proofs.Laws.{values_on_trail}
use Rattle.linear_table.proofs.Settled.{system_sound}
use Rattle.pivot_solver.proofs.TrailLaws.{next_on_trail, one_next_on_trail}
use Rattle.pivot_solver.proofs.laws.laws_of_trails.Goals as goal

pub returns-clause-values : goal.returns-clause-values
returns-clause-values c = λ l ms w t i. values_on_trail (system_of l) ms (system_sound l w) t i

pub returns-clause-next : goal.returns-clause-next
returns-clause-next c = λ l ms e w t a n. next_on_trail l ms e w t a n

pub returns-clause-alone : goal.returns-clause-alone
returns-clause-alone c = λ l ms m k w t h i. one_next_on_trail l ms m k w t h i
