use Rattle.std.proofs.Common.{◌≤◌, ◌-◌, length}
use Rattle.pivot_solver.specs.Path.{IsPath}
use Rattle.pivot_solver.proofs.solve.Given as goal

abbrev pub invariant-exchanges : goal.invariant-exchanges
invariant-exchanges l = IsPath l.linear l.path × (length l.path.trail.items ≤ l.budget)

abbrev pub decreases-exchanges : goal.decreases-exchanges
decreases-exchanges l = l.budget - length l.path.trail.items
