use Rattle.planning_state.proofs.TableWork.{tables-take-none}
use Rattle.planning_state.proofs.laws.tables_take_no_step.Goals as goal

pub returns : goal.returns
returns c = tables-take-none
