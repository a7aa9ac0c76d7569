use Rattle.std.proofs.Common.{◌≡◌, ℕ, List, Ok, subst}
use Rattle.plan_base.specs.Outcomes.{IsRefused}
use Rattle.production_table.specs.Changes.{with_row}
use Rattle.table_rows.specs.declared.refusals.TableRefusal.TheVariants.{NoName}
use Rattle.planner_tables.proofs.StepLemmas.{refused_as, row_made}
use Rattle.planner_tables.proofs.steps.add_row.Goals as goal

pub returns-in-Ok-add_row-clause-ok : goal.returns-in-Ok-add_row-clause-ok
returns-in-Ok-add_row-clause-ok c =
    row_made c.args.game.now c.args.table.now c.add_row.new.self c.args.label.now c.args.setup c.len-place.result c.in-Ok.room c.requires.table c.add_row.ensures.sound
    c.in-Ok-add_row.ensures.fits (subst (λ (l : List ℕ). with_row c.args.game.now l c.args.setup c.args.table.now ≡ Ok (tt, c.add_row.new.self)) c.as_str.ensures c.in-Ok-add_row.ensures.change) c.len-place.ensures c.in-Ok.ensures.len c.in-Ok.ensures.capacity

pub returns-in-Err-clause-fault : goal.returns-in-Err-clause-fault
returns-in-Err-clause-fault c = λ refusal e.
    refused_as (with_row c.args.game.now c.args.label.now c.args.setup c.args.table.now) (NoName c.args.label.now) refusal c.in-Err.fault (subst (λ (l : List ℕ). IsRefused (with_row c.args.game.now l c.args.setup c.args.table.now) c.in-Err.fault) c.as_str.ensures c.in-Err.ensures.change.0) (c.row_fault.ensures refusal e)
