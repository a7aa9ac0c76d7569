use Rattle.std.proofs.lemmas.Result.{MatchResult-weaker}
use Rattle.linear_table.proofs.Duality.{no_plan}
use Rattle.plan_certificate.proofs.check_infeasible.Goals as goal

pub returns-clause-no_plan : goal.returns-clause-no_plan
returns-clause-no_plan c =
    MatchResult-weaker c.check_none.result c.check_none.ensures (λ _ h rates plan. no_plan c.args.linear.now c.args.prices.now rates h.0 plan) (λ _ _. tt)
