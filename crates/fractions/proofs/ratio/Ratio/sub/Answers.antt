use Rattle.std.proofs.Common.{subst}
use Rattle.std.specs.Result.{OkIff}
use Rattle.fractions.specs.Fraction.{Fraction, ◌+ʳ◌, ◌-ʳ◌}
use Rattle.fractions.specs.Limits.{SumFits}
use Rattle.fractions.proofs.ratio.Ratio.sub.Goals as goal

pub returns : goal.returns
unfolding ◌-ʳ◌
returns c = subst (λ (y : Fraction). OkIff c.add.result (SumFits c.args.self.now y) (c.args.self.now +ʳ y)) c.neg.ensures c.add.ensures
