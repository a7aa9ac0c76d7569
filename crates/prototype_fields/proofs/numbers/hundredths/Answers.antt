use Rattle.std.proofs.Common.{sym, ◌∙◌}
use Rattle.prototype_fields.proofs.CutLemmas.{moderate, moderate_parts}
use Rattle.prototype_fields.proofs.numbers.hundredths.Goals as goal

pub cut-requires-clause-moderate : goal.cut-requires-clause-moderate
cut-requires-clause-moderate c = moderate_parts c.args.number.now c.numerator.result c.denominator.result c.numerator.ensures.value c.denominator.ensures.value c.numerator.ensures.narrow c.denominator.ensures.narrow
    (moderate c.args.number.now (rw (← c.whole.ensures) (sym c.is_less.ensures ∙ c.if-is_less.false)) (rw (← c.whole-else-is_less.ensures) (sym c.is_less-else-is_less.ensures ∙ c.if-is_less-2.false)))
