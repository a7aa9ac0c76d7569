use Rattle.std.proofs.Common.{arith, inr, subst}
use Rattle.fractions.specs.Fraction.{Fraction, zero_fraction, ◌≤ʳ◌, ◌<ʳ◌}
use Rattle.fractions.proofs.Order.{<ʳ_not_≤ʳ}
use Rattle.plan_certificate.proofs.Ends.{not_positive}
use Rattle.plan_certificate.proofs.Accepted.{accepted_refusal}
use Rattle.plan_certificate.proofs.check_none.Goals as goal

pub returns-in_default-value_of_wants : goal.returns-in_default-value_of_wants
returns-in_default-value_of_wants c = (omega arith, inr (c.in_default.ensures, c.in_default-value_of_wants.ensures))

pub returns-then-not-is_positive : goal.returns-then-not-is_positive
returns-then-not-is_positive c =
    (omega arith, c.in_default.ensures, c.in-Ok.ensures.0, λ above. <ʳ_not_≤ʳ _ _ above (subst (λ (x : Fraction). x ≤ʳ zero_fraction) c.in-Ok.ensures.1 (not_positive c.in-Ok.sum c.is_positive.result c.is_positive.ensures c.if-not-is_positive.true)))

pub returns : goal.returns
returns c =
    accepted_refusal c.args.linear.now c.args.prices.now (omega arith) c.in_default.ensures c.in-Ok.ensures.0
    (subst (λ (x : Fraction). zero_fraction <ʳ x) c.in-Ok.ensures.1 (c.is_positive.ensures.0 c.if-not-is_positive.false))
