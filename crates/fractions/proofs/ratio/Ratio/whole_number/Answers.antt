use Rattle.std.proofs.Common.{◌∙◌, ap, sym, lit<}
use Rattle.fractions.specs.Fraction.{frac}
use Rattle.fractions.proofs.Parts.{whole_back, narrow_same}
use Rattle.fractions.proofs.Ceiling.{gcd-one, whole_is}
use Rattle.fractions.proofs.ratio.Ratio.whole_number.Goals as goal

pub stored-requires : goal.stored-requires
stored-requires c = record { positive = lit< tt; lowest = gcd-one _; narrow_top = narrow_same _ _ c.requires (sym (whole_back c.args.n c.requires)); narrow_bottom = lit< tt }

pub returns : goal.returns
returns c = c.stored.ensures ∙ (ap (λ k. frac k 1) (whole_back c.args.n c.requires) ∙ whole_is c.args.n)
