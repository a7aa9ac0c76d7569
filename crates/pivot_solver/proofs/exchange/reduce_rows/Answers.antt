use Rattle.std.proofs.Common.{arith}
use Rattle.pivot_solver.proofs.ManyRows.{more_by_call, more_skipped, where_ok}
use Rattle.pivot_solver.proofs.exchange.reduce_rows.Goals as goal
use Rattle.pivot_solver.proofs.exchange.reduce_rows.Goals.{then-i-skip+in_ok-place+in_default, else-i-skip}

pub loop-i-preserved : goal.loop-i-preserved
loop-i-preserved c =
    elim c.if-i-skip.branch [
      | then-i-skip+in_ok-place+in_default w ↦
          rw w.rows-is
          (more_by_call c.args.rows.now c.args.skip c.args.enter c.args.pivot_row.now.items c.loop-i.rows c.loop-i.i w.index-rows-i.result w.reduce_at.new.self
          (omega arith) w.if-i-skip.true (where_ok w.in_ok-place.field-0 w.in_default.field-0 w.in_default.is w.in_ok-place.ensures.ok) c.loop-i.invariant)
      | else-i-skip w ↦ rw w.rows-is (more_skipped c.args.rows.now c.args.skip c.args.enter c.args.pivot_row.now.items c.loop-i.rows c.loop-i.i w.if-i-skip.false c.loop-i.invariant)
    ]
