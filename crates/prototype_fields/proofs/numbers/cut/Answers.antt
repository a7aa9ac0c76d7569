use Rattle.prototype_fields.proofs.CutLemmas.{cut_value, fits_abs}
use Rattle.prototype_fields.proofs.numbers.cut.Goals as goal

pub returns : goal.returns
returns c = cut_value c.args.numerator c.args.denominator c.requires.small c.requires.positive (fits_abs c.args.denominator c.ranges.denominator c.requires.positive) c.requires.moderate
