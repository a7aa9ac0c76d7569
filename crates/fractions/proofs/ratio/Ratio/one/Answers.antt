use Rattle.std.proofs.Common.{refl, lit<, ◌∙◌}
use Rattle.fractions.specs.Gcd.{gcd, gcd_steps}
use Rattle.fractions.specs.Fracs.{one-frac}
use Rattle.fractions.proofs.ratio.Ratio.one.Goals as goal

pub stored-requires : goal.stored-requires
unfolding gcd gcd_steps
stored-requires c = record { positive = lit< tt; lowest = refl; narrow_top = lit< tt; narrow_bottom = lit< tt }

pub returns : goal.returns
returns c = c.stored.ensures ∙ one-frac 1 (lit< tt)
