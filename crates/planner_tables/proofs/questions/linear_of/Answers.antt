use Rattle.production_table.specs.Linear.{linear_of}
use Rattle.table_rows.specs.declared.refusals.TableRefusal.TheVariants.{NoName}
use Rattle.planner_tables.proofs.QuestionLemmas.{caused_as}
use Rattle.planner_tables.proofs.questions.linear_of.Goals as goal

pub returns-in-Err-clause-linear : goal.returns-in-Err-clause-linear
returns-in-Err-clause-linear c = λ refusal e. caused_as (linear_of c.args.game.now c.args.table.now) (NoName c.args.table.now.name) refusal c.in-Err.fault c.in-Err.ensures.linear (c.row_fault.ensures refusal e)
