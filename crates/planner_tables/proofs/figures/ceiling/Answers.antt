use Rattle.planner_tables.proofs.FigureLemmas.{ceiling_is}
use Rattle.planner_tables.proofs.figures.ceiling.Goals as goal

pub returns : goal.returns
returns c = ceiling_is c.args.number.now c.ceil.result c.ceil.ensures.whole c.ceil.ensures.not_below c.ceil.ensures.least
