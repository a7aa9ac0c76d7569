use Rattle.linear_table.specs.Plans.{column_part, number_at}
use Rattle.plan_certificate.proofs.Sums.{IsSumTo}
use Rattle.plan_certificate.proofs.balance.Given as goal

abbrev pub invariant-loop-j : goal.invariant-loop-j
invariant-loop-j l = IsSumTo l.j (λ j. column_part l.linear j l.good) (number_at l.rates) l.sum
