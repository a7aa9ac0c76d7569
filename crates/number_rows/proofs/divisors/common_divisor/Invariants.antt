use Rattle.std.proofs.Common.{◌≡◌}
use Rattle.fractions.specs.Gcd.{gcd}
use Rattle.number_rows.proofs.divisors.common_divisor.Given as goal

abbrev pub invariant-loop-b : goal.invariant-loop-b
invariant-loop-b l = gcd l.a l.b ≡ gcd l.fn.first l.fn.second

abbrev pub decreases-loop-b : goal.decreases-loop-b
decreases-loop-b l = l.b
