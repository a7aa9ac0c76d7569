use Rattle.std.proofs.Common.{sym}
use Rattle.fractions.specs.Stored.{stored_den}
use Rattle.fractions.proofs.ratio.Ratio.natural_denominator.Goals as goal

pub returns-clause-value : goal.returns-clause-value
returns-clause-value c = sym (stored_den _ _ c.self.invariant _ c.self.view_is)
