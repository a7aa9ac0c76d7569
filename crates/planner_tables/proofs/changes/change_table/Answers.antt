use Rattle.std.proofs.Common.{◌≡◌, ◌<◌, ◌∙◌, List, Ok, Err, length, sym, subst}
use Rattle.production_table.specs.declared.tables.Table.{Table}
use Rattle.planner_tables.specs.Effects.{table_named}
use Rattle.planner_tables.specs.Steps.{MakesTable, step_effect}
use Rattle.planner_tables.proofs.ChangeLemmas.{passed, step_made, step_refused, step_refused_name, step_refused_names, table_read}
use Rattle.planner_tables.proofs.changes.change_table.Goals as goal

pub returns-in_err-place-clause-fault : goal.returns-in_err-place-clause-fault
returns-in_err-place-clause-fault c = passed _ c.from_residual.result c.in_err-place.field-0.0 c.from_residual.ensures λ refusal e.
    step_refused_name c.args.game.now c.args.tables.now.items c.args.change.now c.args.name.now refusal c.requires.step c.requires.name
    (subst (λ (ts : List Table). table_named ts c.args.name.now ≡ Err refusal) c.as_slice.ensures.value (c.in_err-place.ensures.place refusal e))

pub returns-in_err-step-clause-fault : goal.returns-in_err-step-clause-fault
returns-in_err-step-clause-fault c = passed _ c.from_residual-in_err-step.result c.in_err-step.field-0.0 c.from_residual-in_err-step.ensures λ refusal e.
    step_refused_names c.args.game.now c.args.tables.now.items c.args.change.now c.args.name.now c.in_ok-place.place refusal c.requires.step c.requires.name
    (subst (λ (ts : List Table). table_named ts c.args.name.now ≡ Ok c.in_ok-place.place) c.as_slice.ensures.value c.in_ok-place.ensures.place) (c.in_err-step.ensures.step refusal e)

pub returns-clause-ok : goal.returns-clause-ok
returns-clause-ok c =
    let g = c.args.game.now in
    let ts = c.args.tables.now.items in
    let place = c.in_ok-place.place in
    let within : place < length ts = subst (λ (xs : List Table). place < length xs) c.as_slice.ensures.value c.in_ok-place.ensures.within in
    step_made g ts c.args.change.now c.args.name.now place c.in_ok-step.step c.index_mut.result.now c.take_step.new.table c.in_ok-part.part c.requires.sound within c.requires.step c.requires.name
    (subst (λ (xs : List Table). table_named xs c.args.name.now ≡ Ok place) c.as_slice.ensures.value c.in_ok-place.ensures.place) c.in_ok-step.ensures.step (table_read ts place c.index_mut.result.now within)
    (subst (λ (old : Table). MakesTable g (step_effect g c.in_ok-step.step old) c.in_ok-part.part old c.take_step.new.table) c.index_mut.ensures.value c.in_ok-part.ensures.ok)

pub returns-in_err-part-clause-fault : goal.returns-in_err-part-clause-fault
returns-in_err-part-clause-fault c = passed _ c.from_residual-in_err-part.result c.in_err-part.field-0.0 c.from_residual-in_err-part.ensures λ refusal e.
    let ts = c.args.tables.now.items in
    let place = c.in_ok-place.place in
    let within : place < length ts = subst (λ (xs : List Table). place < length xs) c.as_slice.ensures.value c.in_ok-place.ensures.within in
    step_refused c.args.game.now ts c.args.change.now c.args.name.now place c.in_ok-step.step c.index_mut.result.now refusal c.requires.step c.requires.name
    (subst (λ (xs : List Table). table_named xs c.args.name.now ≡ Ok place) c.as_slice.ensures.value c.in_ok-place.ensures.place) c.in_ok-step.ensures.step
    (table_read ts place c.index_mut.result.now within ∙ sym c.index_mut.ensures.value) (c.in_err-part.ensures.fault refusal e)
