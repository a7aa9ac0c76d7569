use Rattle.linear_table.specs.Plans.{column_price, number_at}
use Rattle.plan_certificate.proofs.Sums.{IsSumTo}
use Rattle.plan_certificate.proofs.cost.Given as goal

abbrev pub invariant-loop-j : goal.invariant-loop-j
invariant-loop-j l = IsSumTo l.j (number_at l.rates) (column_price l.linear) l.sum
