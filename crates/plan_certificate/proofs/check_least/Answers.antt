use Rattle.std.proofs.Common.{sym, ◌∙◌, arith, inr}
use Rattle.plan_certificate.proofs.Ends.{equal, differ}
use Rattle.plan_certificate.proofs.Accepted.{accepted_prices}
use Rattle.plan_certificate.proofs.check_least.Goals as goal

pub returns-in_default-value_of_wants : goal.returns-in_default-value_of_wants
returns-in_default-value_of_wants c = (omega arith, inr (c.in_default.ensures, c.in_default-value_of_wants.ensures))

pub returns-then-ne : goal.returns-then-ne
returns-then-ne c = (omega arith, c.in_default.ensures, c.in-Ok.ensures.0, λ e. differ c.in-Ok.sum c.args.stated.now (sym c.ne.ensures ∙ c.if-ne.true) (c.in-Ok.ensures.1 ∙ e))

pub returns : goal.returns
returns c = accepted_prices c.args.linear.now c.args.prices.now c.args.stated.now (omega arith) c.in_default.ensures c.in-Ok.ensures.0 (sym c.in-Ok.ensures.1 ∙ equal c.in-Ok.sum c.args.stated.now (sym c.ne.ensures ∙ c.if-ne.false))
