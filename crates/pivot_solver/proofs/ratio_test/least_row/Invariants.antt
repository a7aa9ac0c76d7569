use Rattle.std.specs.Prelude.{MatchOption}
use Rattle.pivot_solver.specs.Least.{IsLeastRow, NoRowAbove}
use Rattle.pivot_solver.proofs.ratio_test.least_row.Given as goal

abbrev pub invariant-loop-i : goal.invariant-loop-i
invariant-loop-i l = MatchOption l.best (NoRowAbove l.rows l.enter l.i) (IsLeastRow l.basis l.rows l.enter l.value l.i)
