-- Rows whose labels differ.
use Rattle.std.proofs.Common.{◌≡◌, ◌∙◌, ◌++◌, ℕ, zero, suc, List, [], ◌∷◌, refl, sym, ap, subst}
use Rattle.std.specs.Prelude.{Bool, true, false, ◌||◌, Some, slice_get, slice_set}
use Rattle.std.specs.List.{insert, list_any, remove}
use Rattle.std.specs.Str.{bytes_eq}
use Rattle.std.proofs.lemmas.Slice.Eq.{bytes_eq-Decides}
use Rattle.std.proofs.lemmas.Bool.{or_from, or_parts}
use Rattle.production_table.specs.declared.tables.TableRow.{TableRow}
use Rattle.production_table.specs.Tables.{is_label, HasOwnLabels}

-- two labels differ both ways
turned : (one other : List ℕ) (b : Bool) → bytes_eq other one ≡ b → bytes_eq one other ≡ false → b ≡ false
turned one other false h k = refl
turned one other true h k =
    let same : other ≡ one = (bytes_eq-Decides other one).0 h in
    let back : bytes_eq one other ≡ true = (bytes_eq-Decides one other).1 (sym same) in
    absurd (cc)

pub differ : (one other : List ℕ) → bytes_eq one other ≡ false → bytes_eq other one ≡ false
differ one other h = turned one other (bytes_eq other one) refl h

-- ---- one row less
pub any_remove : (p : TableRow → Bool) (rows : List TableRow) (k : ℕ) → list_any p rows ≡ false → list_any p (remove rows k) ≡ false
any_remove p [] zero h = refl
any_remove p [] (suc k) h = refl
any_remove p (row ∷ rows) zero h = (or_parts (p row) (list_any p rows) h).1
any_remove p (row ∷ rows) (suc k) h =
    let both = or_parts (p row) (list_any p rows) h in or_from (p row) (list_any p (remove rows k)) both.0 (any_remove p rows k both.1)

pub own_remove : (rows : List TableRow) (k : ℕ) → HasOwnLabels rows → HasOwnLabels (remove rows k)
own_remove [] zero h = tt
own_remove [] (suc k) h = tt
own_remove (row ∷ rows) zero h = h.1
own_remove (row ∷ rows) (suc k) h = (any_remove (is_label row.label) rows k h.0, own_remove rows k h.1)

-- ---- one row more
any_insert : (p : TableRow → Bool) (rows : List TableRow) (k : ℕ) (row : TableRow) → p row ≡ false → list_any p rows ≡ false → list_any p (insert rows k row) ≡ false
any_insert p rows zero row h l = or_from (p row) (list_any p rows) h l
any_insert p [] (suc k) row h l = or_from (p row) false h refl
any_insert p (x ∷ rows) (suc k) row h l =
    let both = or_parts (p x) (list_any p rows) l in or_from (p x) (list_any p (insert rows k row)) both.0 (any_insert p rows k row h both.1)

pub own_insert : (rows : List TableRow) (k : ℕ) (row : TableRow) → HasOwnLabels rows → list_any (is_label row.label) rows ≡ false → HasOwnLabels (insert rows k row)
own_insert rows zero row h l = (l, h)
own_insert [] (suc k) row h l = (refl, tt)
own_insert (x ∷ rows) (suc k) row h l =
    let both = or_parts (is_label row.label x) (list_any (is_label row.label) rows) l in
    (any_insert (is_label x.label) rows k row (differ row.label x.label both.0) h.0, own_insert rows k row h.1 both.1)

-- ---- one row more at the end
any_push : (p : TableRow → Bool) (rows : List TableRow) (row : TableRow) → p row ≡ false → list_any p rows ≡ false → list_any p (rows ++ row ∷ []) ≡ false
any_push p [] row h l = or_from (p row) false h refl
any_push p (x ∷ rows) row h l =
    let both = or_parts (p x) (list_any p rows) l in or_from (p x) (list_any p (rows ++ row ∷ [])) both.0 (any_push p rows row h both.1)

pub own_push : (rows : List TableRow) (row : TableRow) → HasOwnLabels rows → list_any (is_label row.label) rows ≡ false → HasOwnLabels (rows ++ row ∷ [])
own_push [] row h l = (refl, tt)
own_push (x ∷ rows) row h l =
    let both = or_parts (is_label row.label x) (list_any (is_label row.label) rows) l in
    (any_push (is_label x.label) rows row (differ row.label x.label both.0) h.0, own_push rows row h.1 both.1)

-- ---- another row of the same label
any_set : (label : List ℕ) (rows : List TableRow) (k : ℕ) (old row : TableRow) → slice_get rows k ≡ Some old → row.label ≡ old.label → list_any (is_label label) (slice_set rows k row) ≡ list_any (is_label label) rows
any_set label [] k old row h e = refl
any_set label (x ∷ rows) zero old row h e =
    let same : x ≡ old = cc in ap (λ (l : List ℕ). bytes_eq label l || list_any (is_label label) rows) (e ∙ sym (ap (λ (r : TableRow). r.label) same))
any_set label (x ∷ rows) (suc k) old row h e = ap (λ b. bytes_eq label x.label || b) (any_set label rows k old row h e)

pub own_set : (rows : List TableRow) (k : ℕ) (old row : TableRow) → slice_get rows k ≡ Some old → row.label ≡ old.label → HasOwnLabels rows → HasOwnLabels (slice_set rows k row)
own_set [] k old row h e own = tt
own_set (x ∷ rows) zero old row h e own =
    let same : x ≡ old = cc in
    let labels : row.label ≡ x.label = e ∙ sym (ap (λ (r : TableRow). r.label) same) in
    (subst (λ (l : List ℕ). list_any (is_label l) rows ≡ false) (sym labels) own.0, own.1)
own_set (x ∷ rows) (suc k) old row h e own =
    (any_set x.label rows k old row h e ∙ own.0, own_set rows k old row h e own.1)

-- a row that stands among others
pub any_at : (p : TableRow → Bool) (rows : List TableRow) (k : ℕ) (row : TableRow) → list_any p rows ≡ false → slice_get rows k ≡ Some row → p row ≡ false
any_at p [] k row h is = absurd (cc)
any_at p (x ∷ rows) zero row h is = let same : x ≡ row = cc in subst (λ (r : TableRow). p r ≡ false) same (or_parts (p x) (list_any p rows) h).0
any_at p (x ∷ rows) (suc k) row h is = any_at p rows k row (or_parts (p x) (list_any p rows) h).1 is
