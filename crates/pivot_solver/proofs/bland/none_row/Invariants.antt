use Rattle.std.proofs.Common.{ℕ, ◌<◌}
use Rattle.pivot_solver.specs.Settled.{IsNoneRow}
use Rattle.pivot_solver.proofs.bland.none_row.Given as goal

abbrev pub invariant-loop-i : goal.invariant-loop-i
invariant-loop-i l = (j : ℕ) → j < l.i → IsNoneRow l.basis l.rows l.goods l.columns j → ⊥
