-- The row with a label.
use Rattle.std.proofs.Common.{◌≡◌, ◌∙◌, ◌<◌, ◌≤◌, ℕ, List, length, refl, ap, arith, inl, inr}
use Rattle.std.specs.Prelude.{◌⊎◌, Bool, true, false, nat_lt, Option, Some, None, Ok, Err, cond, position, slice_get, slice_set, slice_index_or, get_or}
use Rattle.std.specs.List.{position_or_len, remove}
use Rattle.std.proofs.lemmas.Bool.Decides.{nat_tests}
use Rattle.std.proofs.lemmas.Option.{slice_get_read, slice_get_cases}
use Rattle.fractions.specs.Fraction.{Fraction, zero_fraction, ◌≤ʳ◌, ◌<ʳ◌}
use Rattle.game_types.specs.Steps.{◌▸◌}
use Rattle.production_table.specs.declared.faults.TableFault.TheVariants.{Unknown, Negative}
use Rattle.production_table.specs.declared.tables.Table.{Table}
use Rattle.production_table.specs.declared.tables.TableRow.{TableRow}
use Rattle.production_table.specs.Numbers.{guard}
use Rattle.fractions.proofs.SignLemmas.{negative_is, not_negative}
use Rattle.production_table.specs.Changes.{dropped, place_of, priced, with_price, without_row}
use Rattle.production_table.specs.Tables.{is_label}

pub chosen : (n k m : ℕ) (b : Bool) → nat_lt n m ≡ b → cond b (Some n) None ≡ Some k → (n ≡ k) × (k < m)
chosen n k m true h e = let same : n ≡ k = cc in (same, grind (arith, nat_tests))
chosen n k m false h e = absurd (cc)

pub none_chosen : (n m : ℕ) (b : Bool) → nat_lt n m ≡ b → cond b (Some n) None ≡ None → m ≤ n
none_chosen n m true h e = absurd (cc)
none_chosen n m false h e = grind (arith, nat_tests)

-- where a row is found
pub place_is : (label : List ℕ) (rows : List TableRow) (k : ℕ) → position (is_label label) rows ≡ Some k → (place_of label rows ≡ k) × (k < length rows)
place_is label rows k h = chosen (position_or_len (is_label label) rows) k (length rows) (nat_lt (position_or_len (is_label label) rows) (length rows)) refl h

past : (rows : List TableRow) (k : ℕ) → length rows ≤ k → slice_get rows k ≡ None
past rows k h = by_cases (slice_get_cases rows k).1
  where
    by_cases : ((x : TableRow) × (k < length rows) × (slice_get rows k ≡ Some x) × (get_or rows k x ≡ x)) ⊎ ((length rows ≤ k) × (slice_get rows k ≡ None)) → slice_get rows k ≡ None
    by_cases (inl found) = let within = found.1 in absurd (omega arith)
    by_cases (inr none) = none.1

past_none : (rows : List TableRow) (k : ℕ) → k < length rows → slice_get rows k ≡ None → ⊥
past_none rows k within none = by_cases (slice_get_cases rows k).1
  where
    by_cases : ((x : TableRow) × (k < length rows) × (slice_get rows k ≡ Some x) × (get_or rows k x ≡ x)) ⊎ ((length rows ≤ k) × (slice_get rows k ≡ None)) → ⊥
    by_cases (inl found) = let some = found.2 in cc
    by_cases (inr none) = let out = none.0 in omega arith

-- a row stands at each place
pub some_row : (rows : List TableRow) (k : ℕ) → k < length rows → (row : TableRow) × (slice_get rows k ≡ Some row)
some_row rows k within = by_row (slice_get rows k) refl
  where
    by_row : (o : Option TableRow) → slice_get rows k ≡ o → (row : TableRow) × (slice_get rows k ≡ Some row)
    by_row (Some row) is = (row, is)
    by_row None is = absurd (past_none rows k within is)

-- where none is found
pub none_is : (label : List ℕ) (rows : List TableRow) → position (is_label label) rows ≡ None → slice_get rows (place_of label rows) ≡ None
none_is label rows h = past rows (place_of label rows) (none_chosen (position_or_len (is_label label) rows) (length rows) (nat_lt (position_or_len (is_label label) rows) (length rows)) refl h)

pub no_drop : (t : Table) (label : List ℕ) → position (is_label label) t.rows ≡ None → without_row label t ≡ Err Unknown
unfolding without_row
no_drop t label h = ap (dropped t (place_of label t.rows)) (none_is label t.rows h)

pub no_price : (t : Table) (label : List ℕ) (price : Fraction) → position (is_label label) t.rows ≡ None → with_price label price t ≡ Err Unknown
unfolding with_price
no_price t label price h = ap (priced t price (place_of label t.rows)) (none_is label t.rows h)

pub row_found : (rows : List TableRow) (k : ℕ) (row : TableRow) → k < length rows → row ≡ slice_index_or rows k row → slice_get rows k ≡ Some row
row_found rows k row within is = slice_get_read rows (length rows) k row refl within is

pub drop_is : (t : Table) (label : List ℕ) (k : ℕ) (row : TableRow) → position (is_label label) t.rows ≡ Some k → row ≡ slice_index_or t.rows k row
    → without_row label t ≡ Ok ((k, row), record t { rows = remove t.rows k })
unfolding without_row
drop_is t label k row h is =
    let at = place_is label t.rows k h in
    ap (λ n. dropped t n (slice_get t.rows n)) at.0 ∙ ap (dropped t k) (row_found t.rows k row at.1 is)

pub price_is : (t : Table) (label : List ℕ) (price : Fraction) (k : ℕ) (row : TableRow) → position (is_label label) t.rows ≡ Some k → slice_get t.rows k ≡ Some row
    → with_price label price t ≡ priced t price k (Some row)
unfolding with_price
price_is t label price k row h is =
    let at = place_is label t.rows k h in
    ap (λ n. priced t price n (slice_get t.rows n)) at.0 ∙ ap (priced t price k) is

-- a price that is below 0
pub low_price : (t : Table) (label : List ℕ) (price : Fraction) (k : ℕ) → position (is_label label) t.rows ≡ Some k → price <ʳ zero_fraction → with_price label price t ≡ Err Negative
low_price t label price k h low = let at = place_is label t.rows k h in by_row (slice_get t.rows k) refl at.1
  where
    by_row : (o : Option TableRow) → slice_get t.rows k ≡ o → k < length t.rows → with_price label price t ≡ Err Negative
    by_row (Some row) is within = price_is t label price k row h is ∙ ap (λ b. (guard b Negative ▸ λ _. Ok (row.price, record t { rows = slice_set t.rows k (record row { price = price }) }))) (negative_is price low)
    by_row None is within = absurd (past_none t.rows k within is)

pub fair_price : (t : Table) (label : List ℕ) (price : Fraction) (k : ℕ) (row : TableRow) → position (is_label label) t.rows ≡ Some k → slice_get t.rows k ≡ Some row → zero_fraction ≤ʳ price
    → with_price label price t ≡ Ok (row.price, record t { rows = slice_set t.rows k (record row { price = price }) })
fair_price t label price k row h is fair =
    price_is t label price k row h is ∙ ap (λ b. (guard b Negative ▸ λ _. Ok (row.price, record t { rows = slice_set t.rows k (record row { price = price }) }))) (not_negative price fair)
