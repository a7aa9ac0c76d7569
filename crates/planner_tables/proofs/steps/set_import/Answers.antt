use Rattle.production_table.specs.Changes.{with_import}
use Rattle.table_rows.specs.declared.refusals.TableRefusal.TheVariants.{NoPrice}
use Rattle.planner_tables.proofs.StepLemmas.{import_made, refused_as}
use Rattle.planner_tables.proofs.steps.set_import.Goals as goal

pub returns-in-Ok-set_import-clause-ok : goal.returns-in-Ok-set_import-clause-ok
returns-in-Ok-set_import-clause-ok c =
    import_made c.args.game.now c.args.table.now c.set_import.new.self (NoPrice c.args.object.now) c.args.good c.args.price c.in-Ok-set_import.field-0 c.in-Ok.numbers c.requires.table c.set_import.ensures.sound
    c.requires.good c.in-Ok.ensures c.in-Ok-set_import.ensures.change

pub returns-in-Err-clause-fault : goal.returns-in-Err-clause-fault
returns-in-Err-clause-fault c = λ refusal e. refused_as (with_import c.args.good c.args.price c.args.table.now) (NoPrice c.args.object.now) refusal c.in-Err.fault c.in-Err.ensures.change.0 (c.good_fault.ensures refusal e)
