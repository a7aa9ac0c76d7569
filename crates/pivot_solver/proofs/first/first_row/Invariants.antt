use Rattle.pivot_solver.specs.First.{first_number, ListsNumbers}
use Rattle.pivot_solver.proofs.first.first_row.Given as goal

abbrev pub invariant-loop-place : goal.invariant-loop-place
invariant-loop-place l = ListsNumbers l.place (first_number l.linear l.good) l.row.items
