use Rattle.fractions.proofs.Parts.{same_parts}
use Rattle.fractions.proofs.ratio.Ratio.has_parts_of.Goals as goal

pub returns : goal.returns
returns c = same_parts c.args.self.now c.args.other.now c.numerator.result c.numerator-2.result _ _ c.numerator.ensures.narrow c.numerator-2.ensures.narrow c.numerator.ensures.value c.numerator-2.ensures.value c.natural_denominator.ensures.value c.natural_denominator-2.ensures.value c.if-natural_denominator.false
