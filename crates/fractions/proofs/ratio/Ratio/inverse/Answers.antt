use Rattle.std.proofs.Common.{◌∙◌, ap, unsigned_abs}
use Rattle.fractions.proofs.Parts.{neg_den_stored, inverse_nonneg, inverse_negative, num-zero, wrap_abs, wrap_lt, wrap_le, narrow_same, den_plain, den_negated, den_abs, den_narrow, frac_same_args}
use Rattle.fractions.proofs.ratio.Ratio.inverse.Goals as goal

pub stored-requires : goal.stored-requires
stored-requires c =
    neg_den_stored c.args.self.now _ _
    (narrow_same _ _ c.numerator-n.ensures.narrow c.numerator-n.ensures.value)
    (den_narrow _ _ c.natural_denominator-d.ensures.narrow c.natural_denominator-d.ensures.value)
    (λ e. c.requires (num-zero _ e))
    (den_abs _ _ (den_negated _ _ c.natural_denominator-d.ensures.narrow c.natural_denominator-d.ensures.value))
    (wrap_abs c.numerator-n.result _ _ c.unsigned_abs.ensures.value c.numerator-n.ensures.narrow c.numerator-n.ensures.value)

pub stored-requires-else-n-lt0 : goal.stored-requires-else-n-lt0
stored-requires-else-n-lt0 c =
    neg_den_stored c.args.self.now _ _
    (narrow_same _ _ c.numerator-n.ensures.narrow c.numerator-n.ensures.value)
    (den_narrow _ _ c.natural_denominator-d.ensures.narrow c.natural_denominator-d.ensures.value)
    (λ e. c.requires (num-zero _ e))
    (ap unsigned_abs (den_plain _ _ c.natural_denominator-d.ensures.narrow c.natural_denominator-d.ensures.value))
    (wrap_abs c.numerator-n.result _ _ c.unsigned_abs-else-n-lt0.ensures.value c.numerator-n.ensures.narrow c.numerator-n.ensures.value)

pub returns-then-n-lt0 : goal.returns-then-n-lt0
returns-then-n-lt0 c =
    c.stored.ensures
    ∙ (frac_same_args (den_negated _ _ c.natural_denominator-d.ensures.narrow c.natural_denominator-d.ensures.value) (wrap_abs c.numerator-n.result _ _ c.unsigned_abs.ensures.value c.numerator-n.ensures.narrow c.numerator-n.ensures.value)
    ∙ inverse_negative c.args.self.now (wrap_lt c.numerator-n.result _ c.if-n-lt0.true c.numerator-n.ensures.narrow c.numerator-n.ensures.value))

pub returns-else-n-lt0 : goal.returns-else-n-lt0
returns-else-n-lt0 c =
    c.stored-else-n-lt0.ensures
    ∙ (frac_same_args (den_plain _ _ c.natural_denominator-d.ensures.narrow c.natural_denominator-d.ensures.value) (wrap_abs c.numerator-n.result _ _ c.unsigned_abs-else-n-lt0.ensures.value c.numerator-n.ensures.narrow c.numerator-n.ensures.value)
    ∙ inverse_nonneg c.args.self.now (wrap_le c.numerator-n.result _ c.if-n-lt0.false c.numerator-n.ensures.narrow c.numerator-n.ensures.value))
