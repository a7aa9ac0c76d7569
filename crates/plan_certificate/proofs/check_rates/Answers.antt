use Rattle.std.proofs.Common.{sym, ◌∙◌, arith}
use Rattle.plan_certificate.proofs.Ends.{equal, differ}
use Rattle.plan_certificate.proofs.Accepted.{accepted_plan}
use Rattle.plan_certificate.proofs.check_rates.Goals as goal

pub returns-then-ne : goal.returns-then-ne
returns-then-ne c = (omega arith, c.in_default.ensures, c.in_default-check_balance.ensures, c.in-Ok.ensures.0, λ e. differ c.in-Ok.sum c.args.stated.now (sym c.ne.ensures ∙ c.if-ne.true) (c.in-Ok.ensures.1 ∙ e))

pub returns : goal.returns
returns c =
    accepted_plan c.args.linear.now c.args.rates.now c.args.stated.now (omega arith) c.in_default.ensures c.in_default-check_balance.ensures c.in-Ok.ensures.0 (sym c.in-Ok.ensures.1 ∙ equal c.in-Ok.sum c.args.stated.now (sym c.ne.ensures ∙ c.if-ne.false))
