use Rattle.std.proofs.Common.{◌∙◌, ap, arith}
use Rattle.std.proofs.lemmas.Int.{ints}
use Rattle.fractions.specs.Fraction.{whole_fraction}
use Rattle.fractions.proofs.ratio.Ratio.whole.Goals as goal

pub returns : goal.returns
unfolding whole_fraction
returns c = c.whole_number.ensures ∙ ap whole_fraction (omega (arith, ints))
