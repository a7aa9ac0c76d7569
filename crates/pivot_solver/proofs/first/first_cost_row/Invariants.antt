use Rattle.pivot_solver.specs.First.{first_cost, ListsNumbers}
use Rattle.pivot_solver.proofs.first.first_cost_row.Given as goal

abbrev pub invariant-loop-place : goal.invariant-loop-place
invariant-loop-place l = ListsNumbers l.place (first_cost l.linear) l.row.items
