use Rattle.fractions.specs.Fraction.{zero_fraction, ◌<ʳ◌}
use Rattle.pivot_solver.specs.Search.{NoNumber}
use Rattle.pivot_solver.proofs.signs.first_below.Given as goal

abbrev pub invariant-loop-k : goal.invariant-loop-k
invariant-loop-k l = NoNumber l.row.items l.from l.k (λ x. x <ʳ zero_fraction)
