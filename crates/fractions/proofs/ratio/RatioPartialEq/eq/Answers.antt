use Rattle.fractions.specs.Compare.{same_is}
use Rattle.fractions.proofs.ratio.RatioPartialEq.eq.Goals as goal

pub returns-clause-eq : goal.returns-clause-eq
returns-clause-eq c = same_is c.args.self.now c.args.other.now c.has_parts_of.result c.has_parts_of.ensures
