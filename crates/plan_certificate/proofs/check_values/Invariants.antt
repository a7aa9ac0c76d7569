use Rattle.std.proofs.Common.{ℕ, ◌<◌}
use Rattle.plan_certificate.specs.Faults.{IsWithinAt}
use Rattle.plan_certificate.proofs.check_values.Given as goal

abbrev pub invariant-loop-j : goal.invariant-loop-j
invariant-loop-j l = (k : ℕ) → k < l.j → IsWithinAt l.linear l.limit l.prices k
