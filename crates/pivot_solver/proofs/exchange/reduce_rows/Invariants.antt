use Rattle.pivot_solver.proofs.ManyRows.{IsReducedTo}
use Rattle.pivot_solver.proofs.exchange.reduce_rows.Given as goal

abbrev pub invariant-loop-i : goal.invariant-loop-i
invariant-loop-i l = IsReducedTo l.initial.rows l.skip l.enter l.pivot_row.items l.rows l.i
