use Rattle.table_rows.specs.declared.refusals.TableRefusal.TheVariants.{NoPrice}
use Rattle.planner_tables.proofs.faults.good_refusal.Goals as goal

pub returns-in_default : goal.returns-in_default
returns-in_default c = λ refusal e. c.plain_fault.ensures refusal (NoPrice c.args.object.now) e
