use Rattle.std.proofs.Common.{◌∙◌, sym}
use Rattle.fractions.specs.Stored.{stored_num}
use Rattle.fractions.proofs.Parts.{whole_back}
use Rattle.fractions.proofs.ratio.Ratio.numerator.Goals as goal

pub returns-clause-value : goal.returns-clause-value
returns-clause-value c = whole_back c.self.inside.numerator c.self.invariant.narrow_top ∙ sym (stored_num _ _ c.self.invariant _ c.self.view_is)
