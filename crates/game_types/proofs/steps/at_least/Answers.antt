use Rattle.std.proofs.Common.{sym}
use Rattle.std.specs.declared.cmp.Ordering.TheVariants.{Less, Equal, Greater}
use Rattle.game_types.proofs.StepLemmas.{at_least_is}
use Rattle.game_types.proofs.steps.at_least.Goals as goal

pub returns-in-Less : goal.returns-in-Less
returns-in-Less c = sym (at_least_is c.args.floor.now c.args.number.now Less c.in-Less.ensures)

pub returns-in-Equal : goal.returns-in-Equal
returns-in-Equal c = sym (at_least_is c.args.floor.now c.args.number.now Equal c.in-Equal.ensures)

pub returns-in-Greater : goal.returns-in-Greater
returns-in-Greater c = sym (at_least_is c.args.floor.now c.args.number.now Greater c.in-Greater.ensures)
