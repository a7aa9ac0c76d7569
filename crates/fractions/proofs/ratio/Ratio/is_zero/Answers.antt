use Rattle.fractions.proofs.Parts.{is_zero_by}
use Rattle.fractions.proofs.ratio.Ratio.is_zero.Goals as goal

pub returns : goal.returns
returns c = is_zero_by c.args.self.now c.numerator.result c.numerator.ensures.narrow c.numerator.ensures.value
