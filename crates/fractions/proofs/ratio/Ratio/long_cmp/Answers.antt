use Rattle.std.proofs.Common.{◌∙◌}
use Rattle.fractions.proofs.Compare.{cmp_nonneg, cmp_negative, cmp_same_args}
use Rattle.fractions.proofs.Parts.{wrap_abs, wrap_lt, wrap_le}
use Rattle.fractions.proofs.ratio.Ratio.long_cmp.Goals as goal

pub returns-then-c-lt0 : goal.returns-then-c-lt0
returns-then-c-lt0 c =
    cmp_negative c.args.self.now c.args.other.now c.compare_parts.result
    (wrap_lt c.numerator-a.result _ c.if-a-lt0.true c.numerator-a.ensures.narrow c.numerator-a.ensures.value)
    (wrap_lt c.numerator-c.result _ c.if-c-lt0.true c.numerator-c.ensures.narrow c.numerator-c.ensures.value)
    (c.compare_parts.ensures
    ∙ cmp_same_args _ _ _ _ _ _ _ _
    (wrap_abs c.numerator-c.result _ _ c.unsigned_abs.ensures.value c.numerator-c.ensures.narrow c.numerator-c.ensures.value)
    c.natural_denominator-b.ensures.value
    (wrap_abs c.numerator-a.result _ _ c.unsigned_abs-then-c-lt0.ensures.value c.numerator-a.ensures.narrow c.numerator-a.ensures.value)
    c.natural_denominator-d.ensures.value)

pub returns-else-c-lt0-2 : goal.returns-else-c-lt0-2
returns-else-c-lt0-2 c =
    cmp_nonneg c.args.self.now c.args.other.now c.compare_parts-else-c-lt0-2.result
    (wrap_le c.numerator-a.result _ c.if-a-lt0.false c.numerator-a.ensures.narrow c.numerator-a.ensures.value)
    (wrap_le c.numerator-c.result _ c.if-c-lt0-2.false c.numerator-c.ensures.narrow c.numerator-c.ensures.value)
    (c.compare_parts-else-c-lt0-2.ensures
    ∙ cmp_same_args _ _ _ _ _ _ _ _
    (wrap_abs c.numerator-a.result _ _ c.unsigned_abs-else-c-lt0-2.ensures.value c.numerator-a.ensures.narrow c.numerator-a.ensures.value)
    c.natural_denominator-d.ensures.value
    (wrap_abs c.numerator-c.result _ _ c.unsigned_abs-else-c-lt0-2-2.ensures.value c.numerator-c.ensures.narrow c.numerator-c.ensures.value)
    c.natural_denominator-b.ensures.value)
