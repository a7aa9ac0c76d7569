use Rattle.std.proofs.Common.{ℕ, ◌<◌}
use Rattle.fractions.specs.Fraction.{zero_fraction, ◌≤ʳ◌}
use Rattle.linear_table.specs.Plans.{number_at}
use Rattle.plan_certificate.proofs.check_signs.Given as goal

abbrev pub invariant-loop-j : goal.invariant-loop-j
invariant-loop-j l = (k : ℕ) → k < l.j → zero_fraction ≤ʳ number_at l.rates k
