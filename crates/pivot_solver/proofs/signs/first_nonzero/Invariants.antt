use Rattle.std.specs.Prelude.{◌≢◌}
use Rattle.fractions.specs.Fraction.{zero_fraction}
use Rattle.pivot_solver.specs.Search.{NoNumber}
use Rattle.pivot_solver.proofs.signs.first_nonzero.Given as goal

abbrev pub invariant-loop-k : goal.invariant-loop-k
invariant-loop-k l = NoNumber l.row.items l.from l.k (λ x. x ≢ zero_fraction)
