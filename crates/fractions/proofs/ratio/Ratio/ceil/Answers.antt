use Rattle.std.proofs.Common.{◌≡◌, ◌∙◌, ap, sym, subst}
use Rattle.fractions.specs.Fraction.{Fraction, whole_fraction, ◌≤ʳ◌}
use Rattle.fractions.proofs.Parts.{wrap_same, whole_back}
use Rattle.fractions.proofs.Ceiling.{den-whole, ceiling_least, ceiling_not_below}
use Rattle.fractions.proofs.ratio.Ratio.ceil.Goals.{After-whole_number}
use Rattle.fractions.proofs.ratio.Ratio.ceil.Goals as goal

result_is : (c : After-whole_number) → c.whole_number.result ≡ whole_fraction c.rounded_up.result
result_is c = c.whole_number.ensures ∙ ap whole_fraction (whole_back c.rounded_up.result c.rounded_up.ensures.narrow)

pub returns-clause-whole : goal.returns-clause-whole
returns-clause-whole c = ap (λ (x : Fraction). x.den) (result_is c) ∙ den-whole _

pub returns-clause-not_below : goal.returns-clause-not_below
returns-clause-not_below c =
    let h = c.rounded_up.ensures.not_below in
    subst (λ (y : Fraction). c.args.self.now ≤ʳ y) (sym (result_is c))
    (ceiling_not_below c.args.self.now c.rounded_up.result _ _ (wrap_same c.numerator.result _ c.numerator.ensures.narrow c.numerator.ensures.value) c.natural_denominator.ensures.value h)

pub returns-clause-least : goal.returns-clause-least
returns-clause-least c m k =
    subst (λ (y : Fraction). y ≤ʳ whole_fraction m) (sym (result_is c))
    (ceiling_least c.args.self.now c.rounded_up.result _ _ (wrap_same c.numerator.result _ c.numerator.ensures.narrow c.numerator.ensures.value) c.natural_denominator.ensures.value c.rounded_up.ensures.next m k)
