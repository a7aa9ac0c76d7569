use Rattle.std.proofs.lemmas.Result.{MatchResult-weaker}
use Rattle.linear_table.proofs.Duality.{no_plan_costs_less}
use Rattle.plan_certificate.proofs.Accepted.{same_prices}
use Rattle.plan_certificate.proofs.check_prices.Goals as goal

pub returns-clause-cheapest : goal.returns-clause-cheapest
returns-clause-cheapest c =
    MatchResult-weaker c.check_least.result
    (same_prices c.args.linear.now c.as_slice.result.now c.args.plan.now.prices c.args.plan.now.cost c.check_least.result c.as_slice.ensures c.check_least.ensures)
    (λ _ h rates plan. no_plan_costs_less c.args.linear.now c.args.plan.now.prices rates c.args.plan.now.cost h.0 plan) (λ _ _. tt)
