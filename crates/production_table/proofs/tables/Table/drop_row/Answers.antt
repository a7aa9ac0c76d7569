use Rattle.std.proofs.Common.{◌≡◌, ◌∙◌, List, refl, sym, ap, subst}
use Rattle.std.specs.Prelude.{Ok, slice_index_or}
use Rattle.std.specs.List.{remove}
use Rattle.production_table.specs.declared.tables.TableRow.{TableRow}
use Rattle.production_table.specs.Changes.{without_row}
use Rattle.production_table.specs.Tables.{IsSoundTable}
use Rattle.production_table.proofs.Found.{no_drop, drop_is}
use Rattle.production_table.proofs.Sound.{sound_remove}
use Rattle.production_table.proofs.tables.Table.drop_row.Goals as goal

pub returns-in_default-clause-change : goal.returns-in_default-clause-change
returns-in_default-clause-change c = (no_drop c.args.self.now c.args.label.now (sym c.find_row.ensures ∙ c.in_default.is), refl)

pub returns-clause-change : goal.returns-clause-change
returns-clause-change c =
    let t = c.args.self.now in
    let taken : c.into_vec-rows.result.items ≡ t.rows = c.into_vec-rows.ensures ∙ c.replace.ensures.value in
    let row_is : c.remove-row.result ≡ slice_index_or t.rows c.in-Some.place c.remove-row.result
    = subst (λ (rows : List TableRow). c.remove-row.result ≡ slice_index_or rows c.in-Some.place c.remove-row.result) taken c.remove-row.ensures.value in
    let left : c.from_vec.result ≡ remove t.rows c.in-Some.place
    = c.from_vec.ensures ∙ c.remove-row.ensures.items ∙ ap (λ (rows : List TableRow). remove rows c.in-Some.place) taken in
    subst (λ (rows : List TableRow). without_row c.args.label.now t ≡ Ok ((c.in-Some.place, c.remove-row.result), record t { rows = rows })) (sym left)
    (drop_is t c.args.label.now c.in-Some.place c.remove-row.result (sym c.find_row.ensures ∙ c.in-Some.is) row_is)

pub returns-clause-sound : goal.returns-clause-sound
returns-clause-sound c =
    let t = c.args.self.now in
    let taken : c.into_vec-rows.result.items ≡ t.rows = c.into_vec-rows.ensures ∙ c.replace.ensures.value in
    let left : c.from_vec.result ≡ remove t.rows c.in-Some.place
    = c.from_vec.ensures ∙ c.remove-row.ensures.items ∙ ap (λ (rows : List TableRow). remove rows c.in-Some.place) taken in
    subst (λ (rows : List TableRow). IsSoundTable (record t { rows = rows })) (sym left) (sound_remove t c.in-Some.place c.requires.sound)
