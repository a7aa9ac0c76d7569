use Rattle.linear_table.specs.Plans.{column_part, number_at}
use Rattle.plan_certificate.proofs.Sums.{sum_more}
use Rattle.plan_certificate.proofs.balance.Goals as goal

pub loop-j-preserved : goal.loop-j-preserved
loop-j-preserved c =
    sum_more (λ j. column_part c.args.linear.now j c.args.good) (number_at c.args.rates.now) c.loop-j.j c.loop-j.sum c.part-amount.result c.number-rate.result c.in-Ok.next
    c.part-amount.ensures c.number-rate.ensures c.loop-j.invariant c.in-Ok.ensures
