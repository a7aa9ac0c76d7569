use Rattle.std.proofs.Common.{◌≡◌, ◌<◌, ◌≤◌, ◌∙◌, List, Ok, Err, length, subst}
use Rattle.std.specs.Prelude.{vec_capacity}
use Rattle.production_table.specs.declared.tables.Table.{Table}
use Rattle.planner_tables.specs.declared.undos.TableUndo.TheVariants.{Tables}
use Rattle.planner_tables.specs.Effects.{table_named}
use Rattle.planner_tables.proofs.ChangeLemmas.{drop_made, drop_refused, passed}
use Rattle.planner_tables.proofs.changes.drop_table.Goals as goal

pub returns-in_err-place-clause-fault : goal.returns-in_err-place-clause-fault
returns-in_err-place-clause-fault c = passed _ c.from_residual.result c.in_err-place.field-0.0 c.from_residual.ensures λ refusal e.
    drop_refused c.args.game.now c.args.tables.now.items c.args.name.now refusal
    (subst (λ (ts : List Table). table_named ts c.args.name.now ≡ Err refusal) c.as_slice.ensures.value (c.in_err-place.ensures.place refusal e))

pub returns-clause-ok : goal.returns-clause-ok
returns-clause-ok c =
    let ts = c.args.tables.now.items in
    let place = c.in_ok-place.place in
    let within : place < length ts = subst (λ (xs : List Table). place < length xs) c.as_slice.ensures.value c.in_ok-place.ensures.within in
    drop_made c.args.game.now ts c.exchange_element-back.new.list.items c.args.name.now place c.in-Ok.room (Tables c.exchange_element-back.result) c.requires.sound
    (subst (λ (xs : List Table). table_named xs c.args.name.now ≡ Ok place) c.as_slice.ensures.value c.in_ok-place.ensures.place) within c.in-Ok.ensures.len
    (subst (λ n. n ≤ vec_capacity c.in-Ok.room) (c.len.ensures ∙ c.args.tables.now.ok.0) c.in-Ok.ensures.capacity)
    c.exchange_element-back.ensures.after c.exchange_element-back.ensures.back
