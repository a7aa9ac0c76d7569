-- Changes leave tables well formed.
use Rattle.std.proofs.Common.{◌≡◌, ◌<◌, ◌≤◌, ◌++◌, ◌+◌, ℕ, suc, List, [], ◌∷◌, length, take, drop, arith}
use Rattle.std.specs.Prelude.{All, Some, slice_get, slice_set, false}
use Rattle.std.specs.List.{insert, list_any, remove}
use Rattle.std.proofs.lemmas.Grind.{common_steps}
use Rattle.std.proofs.lemmas.List.Elements.{All-take, All-drop, All-append, All-cons, All-set}
use Rattle.fractions.specs.Fraction.{zero_fraction, ◌≤ʳ◌}
use Rattle.production_table.specs.declared.tables.Table.{Table}
use Rattle.production_table.specs.declared.tables.TableRow.{TableRow}
use Rattle.production_table.specs.Changes.{HasRoom}
use Rattle.production_table.specs.Tables.{is_label, HasOwnLabels, IsSoundTable}
use Rattle.production_table.proofs.Labels.{own_insert, own_push, own_remove, own_set}

abbrev IsPriced : TableRow → Type 0
IsPriced row = zero_fraction ≤ʳ row.price

-- a table with other rows
pub with_rows : (t : Table) (rows : List TableRow) → IsSoundTable t → HasOwnLabels rows → All (λ row. zero_fraction ≤ʳ row.price) rows → length rows ≤ 512 → IsSoundTable (record t { rows = rows })
with_rows t rows s own prices few = record {
  labels = own;
  prices = prices;
  few_rows = few;
  wants = s.wants;
  imports = s.imports;
  surpluses = s.surpluses;
}

fewer : (rows : List TableRow) (k : ℕ) → length (remove rows k) ≤ length rows
fewer rows k = grind (arith, common_steps)

pub sound_remove : (t : Table) (k : ℕ) → IsSoundTable t → IsSoundTable (record t { rows = remove t.rows k })
sound_remove t k s =
    with_rows t (remove t.rows k) s (own_remove t.rows k s.labels)
    (All-append IsPriced (take k t.rows) (drop (suc k) t.rows) (All-take IsPriced k t.rows s.prices) (All-drop IsPriced (suc k) t.rows s.prices))
    (let less = fewer t.rows k in let few = s.few_rows in omega arith)

pub sound_set : (t : Table) (k : ℕ) (old row : TableRow) → slice_get t.rows k ≡ Some old → row.label ≡ old.label → zero_fraction ≤ʳ row.price → IsSoundTable t → IsSoundTable (record t { rows = slice_set t.rows k row })
sound_set t k old row is same price s =
    with_rows t (slice_set t.rows k row) s (own_set t.rows k old row is same s.labels) (All-set IsPriced t.rows k row price s.prices)
    (let few = s.few_rows in let same : length (slice_set t.rows k row) ≡ length t.rows = grind (arith, common_steps) in omega arith)

pub sound_push : (t : Table) (row : TableRow) → IsSoundTable t → list_any (is_label row.label) t.rows ≡ false → length t.rows < 512 → zero_fraction ≤ʳ row.price → IsSoundTable (record t { rows = t.rows ++ row ∷ [] })
sound_push t row s new room price =
    with_rows t (t.rows ++ row ∷ []) s (own_push t.rows row s.labels new)
    (All-append IsPriced t.rows (row ∷ []) s.prices (All-cons IsPriced row [] price (All-take IsPriced 0 t.rows s.prices)))
    (let longer : length (t.rows ++ row ∷ []) ≡ length t.rows + 1 = grind (arith, common_steps) in omega arith)

pub sound_insert : (t : Table) (place : ℕ) (row : TableRow) → IsSoundTable t → HasRoom t place row → IsSoundTable (record t { rows = insert t.rows place row })
sound_insert t place row s room =
    with_rows t (insert t.rows place row) s (own_insert t.rows place row s.labels room.label)
    (All-append IsPriced (take place t.rows) (row ∷ drop place t.rows) (All-take IsPriced place t.rows s.prices) (All-cons IsPriced row (drop place t.rows) room.price (All-drop IsPriced place t.rows s.prices)))
    (let free = room.room in let there = room.there in
    let longer : length (insert t.rows place row) ≡ length t.rows + 1 = grind (arith, common_steps) in omega arith)
