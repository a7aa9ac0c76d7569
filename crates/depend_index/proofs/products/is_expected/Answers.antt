use Rattle.std.proofs.Common.{◌∙◌, ap, subst}
use Rattle.fractions.specs.Fraction.{Fraction, ◌<ʳ◌}
use Rattle.fractions.specs.Signs.{is_positive}
use Rattle.depend_index.proofs.Signs.{expected_less, expected_equal, expected_greater}
use Rattle.depend_index.proofs.products.is_expected.Goals as goal

pub returns-in-Less : goal.returns-in-Less
returns-in-Less c = c.is_positive.ensures ∙ ap is_positive c.neg.ensures ∙ expected_less c.args.product.now (subst (λ (w : Fraction). c.args.product.now.low <ʳ w) c.neg-high.ensures c.in-Less.ensures)

pub returns-in-Equal : goal.returns-in-Equal
returns-in-Equal c = expected_equal c.args.product.now (c.in-Equal.ensures ∙ c.neg-high.ensures)

pub returns-in-Greater : goal.returns-in-Greater
returns-in-Greater c = c.is_positive-in-Greater.ensures ∙ expected_greater c.args.product.now (subst (λ (w : Fraction). w <ʳ c.args.product.now.low) c.neg-high.ensures c.in-Greater.ensures)
