use Rattle.pivot_solver.proofs.Filled.{count_up_next}
use Rattle.pivot_solver.proofs.first.unit_columns.Goals as goal

pub loop-good-preserved : goal.loop-good-preserved
loop-good-preserved c = count_up_next c.loop-good.good c.loop-good.basis.items c.push.new.self.items c.loop-good.invariant c.in_ok-push.ensures.items
