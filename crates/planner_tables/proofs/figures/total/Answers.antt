use Rattle.planner_tables.proofs.FigureLemmas.{total_fits, total_wide}
use Rattle.planner_tables.proofs.figures.total.Goals as goal

pub returns-in-Ok : goal.returns-in-Ok
returns-in-Ok c = total_fits c.args.left.now c.args.right.now c.in-Ok.value c.in-Ok.ensures.0 c.in-Ok.ensures.1

pub returns-in-Err : goal.returns-in-Err
returns-in-Err c = total_wide c.args.left.now c.args.right.now c.in-Err.ensures
