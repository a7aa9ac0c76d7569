use Rattle.std.proofs.lemmas.Result.{MatchResult-weaker}
use Rattle.plan_certificate.specs.Faults.{IsAcceptedPlan, IsPlanFault}
use Rattle.plan_certificate.proofs.Accepted.{same_plan, ok_exactly, no_plan_fault}
use Rattle.plan_certificate.proofs.check_plan.Goals as goal

pub returns-clause-ok : goal.returns-clause-ok
returns-clause-ok c =
    ok_exactly c.check_rates.result (IsAcceptedPlan c.args.linear.now c.args.plan.now.rates c.args.plan.now.cost) (IsPlanFault c.args.linear.now c.args.plan.now.rates c.args.plan.now.cost)
    (same_plan c.args.linear.now c.as_slice.result.now c.args.plan.now.rates c.args.plan.now.cost c.check_rates.result c.as_slice.ensures c.check_rates.ensures)
    (no_plan_fault c.args.linear.now c.args.plan.now.rates c.args.plan.now.cost)

pub returns-clause-fault : goal.returns-clause-fault
returns-clause-fault c =
    MatchResult-weaker c.check_rates.result (same_plan c.args.linear.now c.as_slice.result.now c.args.plan.now.rates c.args.plan.now.cost c.check_rates.result c.as_slice.ensures c.check_rates.ensures) (λ _ _. tt) (λ _ h. h)
