use Rattle.pivot_solver.specs.First.{ListsRows}
use Rattle.pivot_solver.proofs.first.first_rows.Given as goal

abbrev pub invariant-loop-good : goal.invariant-loop-good
invariant-loop-good l = ListsRows l.linear l.good l.rows.items
