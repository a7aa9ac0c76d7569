use Rattle.std.proofs.Common.{◌∙◌}
use Rattle.fractions.proofs.Parts.{whole_back, is_positive_by}
use Rattle.fractions.proofs.ratio.Ratio.is_positive.Goals as goal

pub returns : goal.returns
returns c = is_positive_by c.args.self.now _ (whole_back c.numerator.result c.numerator.ensures.narrow ∙ c.numerator.ensures.value)
