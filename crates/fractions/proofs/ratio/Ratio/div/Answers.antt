use Rattle.std.proofs.Common.{subst}
use Rattle.std.specs.Result.{OkIff}
use Rattle.fractions.specs.Fraction.{Fraction, ◌*ʳ◌, ◌/ʳ◌}
use Rattle.fractions.specs.Limits.{IsNarrow}
use Rattle.fractions.proofs.ratio.Ratio.div.Goals as goal

pub returns : goal.returns
unfolding ◌/ʳ◌
returns c = subst (λ (y : Fraction). OkIff c.mul.result (IsNarrow (c.args.self.now *ʳ y)) (c.args.self.now *ʳ y)) c.inverse.ensures c.mul.ensures
