use Rattle.production_table.specs.Changes.{with_want}
use Rattle.table_rows.specs.declared.refusals.TableRefusal.TheVariants.{NoPrice}
use Rattle.planner_tables.proofs.StepLemmas.{refused_as, want_made}
use Rattle.planner_tables.proofs.steps.set_want.Goals as goal

pub returns-in-Ok-set_want-clause-ok : goal.returns-in-Ok-set_want-clause-ok
returns-in-Ok-set_want-clause-ok c =
    want_made c.args.game.now c.args.table.now c.set_want.new.self (NoPrice c.args.object.now) c.args.good c.args.rate.now c.in-Ok-set_want.field-0 c.in-Ok.numbers c.requires.table c.set_want.ensures.sound
    c.requires.good c.in-Ok.ensures c.in-Ok-set_want.ensures.change

pub returns-in-Err-clause-fault : goal.returns-in-Err-clause-fault
returns-in-Err-clause-fault c = λ refusal e. refused_as (with_want c.args.good c.args.rate.now c.args.table.now) (NoPrice c.args.object.now) refusal c.in-Err.fault c.in-Err.ensures.change.0 (c.good_fault.ensures refusal e)
