use Rattle.std.proofs.Common.{◌∙◌, arith}
use Rattle.std.proofs.lemmas.Int.{ints}
use Rattle.fractions.proofs.Parts.{negated_by}
use Rattle.fractions.proofs.ratio.Ratio.neg.Goals as goal

pub returns : goal.returns
returns c = c.stored.ensures ∙ negated_by c.args.self.now _ _ (omega (arith, ints, c.numerator.ensures.value, c.numerator.ensures.narrow)) c.natural_denominator.ensures.value
