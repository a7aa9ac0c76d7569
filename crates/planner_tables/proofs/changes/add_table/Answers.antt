use Rattle.std.proofs.Common.{◌≡◌, ◌∙◌, List, ◌++◌, ◌∷◌, [], length, ap, sym, arith}
use Rattle.std.specs.List.{list_any}
use Rattle.production_table.specs.declared.tables.Table.{Table}
use Rattle.production_table.specs.Changes.{empty_table}
use Rattle.table_rows.specs.declared.refusals.TableRefusal.TheVariants.{Full, NameUsed}
use Rattle.planner_tables.specs.Effects.{is_name}
use Rattle.plan_base.proofs.Outcomes.{refused_same}
use Rattle.planner_tables.proofs.ChangeLemmas.{table_made, table_used, tables_full}
use Rattle.planner_tables.proofs.changes.add_table.Goals as goal

pub returns-then-has_table-clause-fault : goal.returns-then-has_table-clause-fault
returns-then-has_table-clause-fault c = λ refusal e.
    table_used c.args.game.now c.args.tables.now.items c.args.name.now refusal
    (ap (list_any (is_name c.args.name.now)) (sym c.as_slice.ensures.value) ∙ (sym c.has_table.ensures ∙ c.if-has_table.true)) (refused_same NameUsed refusal e)

pub returns-then-place-ge64-clause-fault : goal.returns-then-place-ge64-clause-fault
returns-then-place-ge64-clause-fault c = λ refusal e.
    tables_full c.args.game.now c.args.tables.now.items c.args.name.now refusal
    (ap (list_any (is_name c.args.name.now)) (sym c.as_slice.ensures.value) ∙ (sym c.has_table.ensures ∙ c.if-has_table.false))
    (let n = c.args.tables.now.ok.0 in omega arith) (refused_same Full refusal e)

pub returns-clause-ok : goal.returns-clause-ok
returns-clause-ok c =
    let ts = c.args.tables.now.items in
    let n : c.len-place.result ≡ length ts = c.len-place.ensures ∙ c.args.tables.now.ok.0 in
    table_made c.args.game.now ts c.put.new.tables.items c.in-Ok-make.table c.args.name.now c.len-place.result c.in-Ok.room c.requires.sound
    (ap (list_any (is_name c.args.name.now)) (sym c.as_slice.ensures.value) ∙ (sym c.has_table.ensures ∙ c.if-has_table.false))
    (omega arith)
    (c.put.ensures ∙ ap (λ (xs : List Table). xs ++ c.in-Ok-make.table ∷ []) c.reserve.ensures.items)
    (c.in-Ok-make.ensures.table ∙ ap empty_table c.as_str.ensures) c.in-Ok-make.ensures.sound n c.in-Ok.ensures.len c.in-Ok.ensures.capacity
