use Rattle.pivot_solver.specs.Settled.{AreUnitsEmpty}
use Rattle.pivot_solver.proofs.bland.units_are_empty.Given as goal

abbrev pub invariant-loop-i : goal.invariant-loop-i
invariant-loop-i l = AreUnitsEmpty l.basis l.rows l.goods l.columns l.i
