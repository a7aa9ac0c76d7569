use Rattle.linear_table.specs.Plans.{column_part, number_at}
use Rattle.plan_certificate.proofs.Sums.{IsSumTo}
use Rattle.plan_certificate.proofs.column_value.Given as goal

abbrev pub invariant-loop-g : goal.invariant-loop-g
invariant-loop-g l = IsSumTo l.g (column_part l.linear l.column) (number_at l.prices) l.sum
