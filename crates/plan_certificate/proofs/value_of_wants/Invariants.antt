use Rattle.linear_table.specs.Plans.{want_at, number_at}
use Rattle.plan_certificate.proofs.Sums.{IsSumTo}
use Rattle.plan_certificate.proofs.value_of_wants.Given as goal

abbrev pub invariant-loop-g : goal.invariant-loop-g
invariant-loop-g l = IsSumTo l.g (want_at l.linear) (number_at l.prices) l.sum
