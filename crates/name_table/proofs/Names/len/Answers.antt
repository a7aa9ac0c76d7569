use Rattle.std.proofs.Common.{subst}
use Rattle.name_table.specs.Names.{AreDifferent}
use Rattle.name_table.proofs.NamesLemmas.{AreDifferent-map}
use Rattle.name_table.proofs.Names.len.Goals as goal

pub returns-clause-different : goal.returns-clause-different
returns-clause-different c = subst AreDifferent c.self.view_is (AreDifferent-map _ c.len.ensures.unique)
