use Rattle.std.specs.Prelude.{MatchOption}
use Rattle.pivot_solver.specs.Aim.{NoAimRow, IsAimRow}
use Rattle.pivot_solver.proofs.bland.aim_row.Given as goal

abbrev pub invariant-loop-i : goal.invariant-loop-i
invariant-loop-i l = MatchOption l.aim (NoAimRow l.basis l.rows l.goods l.columns l.i) (IsAimRow l.basis l.rows l.goods l.columns l.i)
