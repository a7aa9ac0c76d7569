-- What a change of rows answers undoes it.
use Rattle.std.proofs.Common.{◌≡◌, ◌∙◌, ◌≤◌, ◌+◌, ◌++◌, ℕ, zero, suc, List, [], ◌∷◌, length, refl, sym, ap, subst, arith, Result}
use Rattle.std.specs.Prelude.{All, Bool, true, false, not, cond, Option, Some, None, Ok, Err, slice_get, slice_set}
use Rattle.std.specs.List.{insert, list_any, position_or_len, remove}
use Rattle.std.specs.Str.{bytes_eq}
use Rattle.std.proofs.lemmas.Slice.Eq.{bytes_eq-Decides}
use Rattle.std.proofs.lemmas.List.Elements.{All-head, All-tail}
use Rattle.std.proofs.lemmas.Bool.{or_from, or_parts}
use Rattle.fractions.specs.Fraction.{Fraction, zero_fraction, ◌≤ʳ◌}
use Rattle.game_types.specs.declared.setups.Setup.{Setup}
use Rattle.game_types.specs.declared.games.Game.{Game}
use Rattle.game_types.specs.Steps.{◌▸◌}
use Rattle.production_table.specs.declared.faults.TableFault.{TableFault}
use Rattle.production_table.specs.declared.faults.TableFault.TheVariants.{Negative}
use Rattle.production_table.specs.declared.tables.Table.{Table}
use Rattle.production_table.specs.declared.tables.TableRow.{TableRow}
use Rattle.production_table.specs.Changes.{dropped, is_used, new_row, place_of, priced, row_fits, with_price, with_row, with_row_at, without_row, HasRoom}
use Rattle.production_table.specs.Numbers.{guard}
use Rattle.fractions.specs.Signs.{is_negative}
use Rattle.production_table.specs.Tables.{is_label, HasOwnLabels, IsSoundTable}
use Rattle.production_table.proofs.Pairs.{same_parts}
use Rattle.production_table.proofs.Added.{new_is}
use Rattle.production_table.proofs.Labels.{any_at, differ}
use Rattle.fractions.proofs.SignLemmas.{not_negative}

own_label : (label : List ℕ) → bytes_eq label label ≡ true
own_label label = (bytes_eq-Decides label label).1 refl

-- ---- a row that came in is the last
last_place : (p : TableRow → Bool) (rows : List TableRow) (row : TableRow) → list_any p rows ≡ false → p row ≡ true → position_or_len p (rows ++ row ∷ []) ≡ length rows
last_place p [] row h k = ap (λ b. cond (not b) (1 + 0) 0) k
last_place p (x ∷ rows) row h k =
    let both = or_parts (p x) (list_any p rows) h in
    let rest = last_place p rows row both.1 k in
    ap (λ b. cond (not b) (1 + position_or_len p (rows ++ row ∷ [])) 0) both.0 ∙ ap (λ n. 1 + n) rest ∙ omega arith

last_row : (rows : List TableRow) (row : TableRow) → slice_get (rows ++ row ∷ []) (length rows) ≡ Some row
last_row [] row = refl
last_row (x ∷ rows) row = last_row rows row

without_last : (rows : List TableRow) (row : TableRow) → remove (rows ++ row ∷ []) (length rows) ≡ rows
without_last [] row = refl
without_last (x ∷ rows) row = ap (λ (rs : List TableRow). x ∷ rs) (without_last rows row)

dropped_last : (label : List ℕ) (setup : Setup) (t : Table) → is_used t label ≡ false → without_row label (record t { rows = t.rows ++ new_row label setup ∷ [] }) ≡ Ok ((length t.rows, new_row label setup), t)
unfolding without_row
dropped_last label setup t h =
    let row = new_row label setup in
    let all = t.rows ++ new_row label setup ∷ [] in
    let place : place_of label (t.rows ++ new_row label setup ∷ []) ≡ length t.rows = last_place (is_label label) t.rows (new_row label setup) h (own_label label) in
    ap (λ n. dropped (record t { rows = t.rows ++ new_row label setup ∷ [] }) n (slice_get (t.rows ++ new_row label setup ∷ []) n)) place
    ∙ ap (dropped (record t { rows = t.rows ++ new_row label setup ∷ [] }) (length t.rows)) (last_row t.rows (new_row label setup))
    ∙ ap (λ (rs : List TableRow). let both : (ℕ × TableRow) × Table = ((length t.rows, new_row label setup), record t { rows = rs }) in Ok both) (without_last t.rows (new_row label setup))

came_in : (r : Result (Unit {0}) TableFault) (t new : Table) → ◌▸◌ {B = Unit {0} × Table} r (λ _. Ok (tt, t)) ≡ Ok (tt, new) → (r ≡ Ok tt) × (t ≡ new)
came_in (Ok fine) t new h = (refl, (same_parts tt tt t new h).1)
came_in (Err fault) t new h = absurd (cc)

pub row_back : (g : Game) (label : List ℕ) (setup : Setup) (old new : Table) → with_row g label setup old ≡ Ok (tt, new) → without_row label new ≡ Ok ((length old.rows, new_row label setup), old)
unfolding with_row
row_back g label setup old new h =
    let end = came_in (row_fits g label setup old) (record old { rows = old.rows ++ new_row label setup ∷ [] }) new h in
    subst (λ (t : Table). without_row label t ≡ Ok ((length old.rows, new_row label setup), old)) end.1 (dropped_last label setup old (new_is g label setup old end.0).label_new)

-- ---- a row that was dropped goes back
put_back : (rows : List TableRow) (k : ℕ) (row : TableRow) → slice_get rows k ≡ Some row → insert (remove rows k) k row ≡ rows
put_back [] k row h = absurd (cc)
put_back (x ∷ rows) zero row h = let same : row ≡ x = cc in ap (λ (r : TableRow). r ∷ rows) same
put_back (x ∷ rows) (suc k) row h = ap (λ (rs : List TableRow). x ∷ rs) (put_back rows k row h)

label_free : (rows : List TableRow) (k : ℕ) (row : TableRow) → HasOwnLabels rows → slice_get rows k ≡ Some row → list_any (is_label row.label) (remove rows k) ≡ false
label_free [] k row own h = absurd (cc)
label_free (x ∷ rows) zero row own h = let same : x ≡ row = cc in subst (λ (r : TableRow). list_any (is_label r.label) rows ≡ false) same own.0
label_free (x ∷ rows) (suc k) row own h =
    or_from (is_label row.label x) (list_any (is_label row.label) (remove rows k)) (differ x.label row.label (any_at (is_label x.label) rows k row own.0 h)) (label_free rows k row own.1 h)

one_fewer : (rows : List TableRow) (k : ℕ) (row : TableRow) → slice_get rows k ≡ Some row → (length (remove rows k) + 1 ≡ length rows) × (k ≤ length (remove rows k))
one_fewer [] k row h = absurd (cc)
one_fewer (x ∷ rows) zero row h = (omega arith, omega arith)
one_fewer (x ∷ rows) (suc k) row h = let less = one_fewer rows k row h in (omega arith, omega arith)

price_at : (rows : List TableRow) (k : ℕ) (row : TableRow) → All (λ r. zero_fraction ≤ʳ r.price) rows → slice_get rows k ≡ Some row → zero_fraction ≤ʳ row.price
price_at [] k row each h = absurd (cc)
price_at (x ∷ rows) zero row each h = let same : x ≡ row = cc in subst (λ (r : TableRow). zero_fraction ≤ʳ r.price) same (All-head (λ (r : TableRow). zero_fraction ≤ʳ r.price) x rows each)
price_at (x ∷ rows) (suc k) row each h = price_at rows k row (All-tail (λ (r : TableRow). zero_fraction ≤ʳ r.price) x rows each) h

-- where a row was dropped
record Dropping (t : Table) (found : ℕ × TableRow) (new : Table) : Type 0 where
  row : slice_get t.rows found.0 ≡ Some found.1
  left : new ≡ record t { rows = remove t.rows found.0 }

dropping : (t : Table) (place : ℕ) (o : Option TableRow) (found : ℕ × TableRow) (new : Table) → slice_get t.rows place ≡ o → dropped t place o ≡ Ok (found, new) → Dropping t found new
dropping t place None found new h e = absurd (cc)
dropping t place (Some row) found new h e =
    let both = same_parts (place, row) found (record t { rows = remove t.rows place }) new e in
    let at : place ≡ found.0 = ap (λ (f : ℕ × TableRow). f.0) both.0 in
    let same : row ≡ found.1 = ap (λ (f : ℕ × TableRow). f.1) both.0 in
    let left : record t { rows = remove t.rows place } ≡ new = both.1 in
    record {
      row = ap (λ n. slice_get t.rows n) (sym at) ∙ h ∙ ap Some same;
      left = sym left ∙ ap (λ n. record t { rows = remove t.rows n }) at;
    }

pub room_back : (label : List ℕ) (found : ℕ × TableRow) (old new : Table) → IsSoundTable old → without_row label old ≡ Ok (found, new) → HasRoom new found.0 found.1
unfolding without_row
room_back label found old new s h =
    let drop = dropping old (place_of label old.rows) (slice_get old.rows (place_of label old.rows)) found new refl h in
    let less = one_fewer old.rows found.0 found.1 drop.row in
    let few = s.few_rows in
    subst (λ (t : Table). HasRoom t found.0 found.1) (sym drop.left) (record {
      label = label_free old.rows found.0 found.1 s.labels drop.row;
      room = omega arith;
      there = less.1;
      price = price_at old.rows found.0 found.1 s.prices drop.row;
    })

pub drop_back : (label : List ℕ) (found : ℕ × TableRow) (old new : Table) → without_row label old ≡ Ok (found, new) → with_row_at found.0 found.1 new ≡ old
unfolding without_row with_row_at
drop_back label found old new h =
    let drop = dropping old (place_of label old.rows) (slice_get old.rows (place_of label old.rows)) found new refl h in
    ap (λ (t : Table). record t { rows = insert t.rows found.0 found.1 }) drop.left ∙ ap (λ (rs : List TableRow). record old { rows = rs }) (put_back old.rows found.0 found.1 drop.row)

-- ---- a price that was changed changes back
same_place : (label : List ℕ) (rows : List TableRow) (k : ℕ) (old row : TableRow) → slice_get rows k ≡ Some old → row.label ≡ old.label → place_of label (slice_set rows k row) ≡ place_of label rows
same_place label [] k old row h e = refl
same_place label (x ∷ rows) zero old row h e =
    let same : old ≡ x = cc in
    ap (λ (l : List ℕ). cond (not (bytes_eq label l)) (1 + place_of label rows) 0) (e ∙ ap (λ (r : TableRow). r.label) same)
same_place label (x ∷ rows) (suc k) old row h e = ap (λ n. cond (not (is_label label x)) (1 + n) 0) (same_place label rows k old row h e)

set_there : (rows : List TableRow) (k : ℕ) (old row : TableRow) → slice_get rows k ≡ Some old → slice_get (slice_set rows k row) k ≡ Some row
set_there [] k old row h = absurd (cc)
set_there (x ∷ rows) zero old row h = refl
set_there (x ∷ rows) (suc k) old row h = set_there rows k old row h

set_back : (rows : List TableRow) (k : ℕ) (old row : TableRow) → slice_get rows k ≡ Some old → slice_set (slice_set rows k row) k old ≡ rows
set_back [] k old row h = refl
set_back (x ∷ rows) zero old row h = let same : old ≡ x = cc in ap (λ (r : TableRow). r ∷ rows) same
set_back (x ∷ rows) (suc k) old row h = ap (λ (rs : List TableRow). x ∷ rs) (set_back rows k old row h)

record Pricing (t : Table) (price answer : Fraction) (place : ℕ) (new : Table) : Type 0 where
  row : TableRow
  there : slice_get t.rows place ≡ Some row
  old : row.price ≡ answer
  left : new ≡ record t { rows = slice_set t.rows place (record row { price = price }) }

signed : (b : Bool) (old answer : Fraction) (t new : Table) → ◌▸◌ {B = Fraction × Table} (guard b Negative) (λ _. Ok (old, t)) ≡ Ok (answer, new) → (old ≡ answer) × (t ≡ new)
signed false old answer t new h = same_parts old answer t new h
signed true old answer t new h = absurd (cc)

pricing : (t : Table) (price answer : Fraction) (place : ℕ) (o : Option TableRow) (new : Table) → slice_get t.rows place ≡ o → priced t price place o ≡ Ok (answer, new) → Pricing t price answer place new
pricing t price answer place None new h e = absurd (cc)
pricing t price answer place (Some row) new h e =
    let end = signed (is_negative price) row.price answer (record t { rows = slice_set t.rows place (record row { price = price }) }) new e in
    record { row = row; there = h; old = end.0; left = sym end.1 }

fair : (b : Bool) (old : Fraction) (t : Table) → b ≡ false → ◌▸◌ {B = Fraction × Table} (guard b Negative) (λ _. Ok (old, t)) ≡ Ok (old, t)
fair false old t h = refl
fair true old t h = absurd (cc)

pub price_back : (label : List ℕ) (price answer : Fraction) (old new : Table) → IsSoundTable old → with_price label price old ≡ Ok (answer, new) → with_price label answer new ≡ Ok (price, old)
unfolding with_price
price_back label price answer old new s h =
    let place = place_of label old.rows in
    let p = pricing old price answer (place_of label old.rows) (slice_get old.rows (place_of label old.rows)) new refl h in
    let dear : TableRow = record p.row { price = price } in
    let rows : List TableRow = slice_set old.rows (place_of label old.rows) (record p.row { price = price }) in
    let at : place_of label (slice_set old.rows (place_of label old.rows) (record p.row { price = price })) ≡ place_of label old.rows
    = same_place label old.rows (place_of label old.rows) p.row (record p.row { price = price }) p.there refl in
    let start : with_price label p.row.price (record old { rows = slice_set old.rows (place_of label old.rows) (record p.row { price = price }) }) ≡ Ok (price, old) =
    ap (λ n. priced (record old { rows = slice_set old.rows (place_of label old.rows) (record p.row { price = price }) }) p.row.price n (slice_get (slice_set old.rows (place_of label old.rows) (record p.row { price = price })) n)) at
    ∙ ap (priced (record old { rows = slice_set old.rows (place_of label old.rows) (record p.row { price = price }) }) p.row.price (place_of label old.rows))
    (set_there old.rows (place_of label old.rows) p.row (record p.row { price = price }) p.there)
    ∙ fair (is_negative p.row.price) price _ (not_negative p.row.price (price_at old.rows (place_of label old.rows) p.row s.prices p.there))
    ∙ ap (λ (rs : List TableRow). let both : Fraction × Table = (price, record old { rows = rs }) in Ok both) (set_back old.rows (place_of label old.rows) p.row (record p.row { price = price }) p.there) in
    subst (λ (x : Fraction). with_price label x new ≡ Ok (price, old)) p.old (subst (λ (t : Table). with_price label p.row.price t ≡ Ok (price, old)) (sym p.left) start)
