use Rattle.std.proofs.Common.{arith}
use Rattle.pivot_solver.proofs.Filled.{rows_more}
use Rattle.pivot_solver.proofs.first.first_rows.Goals as goal

pub loop-good-preserved : goal.loop-good-preserved
loop-good-preserved c =
    rows_more c.args.linear.now c.loop-good.good _ c.loop-good.rows.items c.push.new.self.items c.in_ok-first_row.field-0 c.loop-good.invariant (omega (arith, c.requires.width_is)) c.in_ok-first_row.ensures c.in_ok-push.ensures.items
