use Rattle.production_table.specs.Changes.{with_surplus}
use Rattle.table_rows.specs.declared.refusals.TableRefusal.TheVariants.{NoPrice}
use Rattle.planner_tables.proofs.StepLemmas.{refused_as, surplus_made}
use Rattle.planner_tables.proofs.steps.set_surplus.Goals as goal

pub returns-in-Ok-set_surplus-clause-ok : goal.returns-in-Ok-set_surplus-clause-ok
returns-in-Ok-set_surplus-clause-ok c =
    surplus_made c.args.game.now c.args.table.now c.set_surplus.new.self (NoPrice c.args.object.now) c.args.good c.args.price c.in-Ok-set_surplus.field-0 c.in-Ok.numbers c.requires.table c.set_surplus.ensures.sound
    c.requires.good c.in-Ok.ensures c.in-Ok-set_surplus.ensures.change

pub returns-in-Err-clause-fault : goal.returns-in-Err-clause-fault
returns-in-Err-clause-fault c = λ refusal e. refused_as (with_surplus c.args.good c.args.price c.args.table.now) (NoPrice c.args.object.now) refusal c.in-Err.fault c.in-Err.ensures.change.0 (c.good_fault.ensures refusal e)
