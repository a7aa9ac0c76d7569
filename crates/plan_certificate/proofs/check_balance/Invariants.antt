use Rattle.std.proofs.Common.{ℕ, ◌<◌}
use Rattle.plan_certificate.specs.Faults.{IsBalancedAt}
use Rattle.plan_certificate.proofs.check_balance.Given as goal

abbrev pub invariant-loop-g : goal.invariant-loop-g
invariant-loop-g l = (k : ℕ) → k < l.g → IsBalancedAt l.linear l.rates k
