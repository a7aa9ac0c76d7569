use Rattle.table_rows.specs.declared.refusals.TableRefusal.TheVariants.{NoName}
use Rattle.planner_tables.proofs.faults.row_refusal.Goals as goal

pub returns-in_default : goal.returns-in_default
returns-in_default c = λ refusal e. c.plain_fault.ensures refusal (NoName c.args.label.now) e
