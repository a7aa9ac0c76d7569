use Rattle.std.proofs.Common.{◌≡◌}
use Rattle.linear_table.specs.Trail.{count_up}
use Rattle.pivot_solver.proofs.first.unit_columns.Given as goal

abbrev pub invariant-loop-good : goal.invariant-loop-good
invariant-loop-good l = l.basis.items ≡ count_up 0 l.good
