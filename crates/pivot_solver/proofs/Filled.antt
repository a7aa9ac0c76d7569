-- Lists that grow by one number, and rows that grow by one row.
use Rattle.std.specs.Prelude.{◌≡◌, ℕ, zero, suc, ◌+◌, ◌<◌, List, [], ◌∷◌, ◌++◌, length}
use Rattle.std.proofs.Common.{refl, sym, ap, subst, ◌∙◌, arith, inl, inr, length-append}
use Rattle.std.proofs.lemmas.Bool.{cases_eq}
use Rattle.number_rows.specs.Changed.{Numbers}
use Rattle.fractions.specs.Fraction.{Fraction}
use Rattle.fractions.specs.Limits.{IsNarrow}
use Rattle.linear_table.specs.Plans.{number_at}
use Rattle.linear_table.specs.Trail.{count_up}
use Rattle.linear_table.specs.declared.Linear.{Linear}
use Rattle.pivot_solver.specs.Rows.{row_at}
use Rattle.pivot_solver.specs.First.{width_of, first_number, ListsNumbers, ListsRows}

pub number_at-append_old : (xs : List Fraction) (x : Fraction) (k : ℕ) → k < length xs → number_at (xs ++ x ∷ []) k ≡ number_at xs k
number_at-append_old [] x k h = absurd (omega arith)
number_at-append_old (y ∷ xs) x zero h = refl
number_at-append_old (y ∷ xs) x (suc k) h = number_at-append_old xs x k (omega arith)

pub number_at-append_new : (xs : List Fraction) (x : Fraction) → number_at (xs ++ x ∷ []) (length xs) ≡ x
number_at-append_new [] x = refl
number_at-append_new (y ∷ xs) x = number_at-append_new xs x

pub numbers_none : (f : ℕ → Fraction) (xs : List Fraction) → xs ≡ [] → ListsNumbers 0 f xs
numbers_none f xs e =
    record { length_is = ap (λ (x : List Fraction). length x) e; number_is = λ k h. absurd (omega arith); narrow = λ k h. absurd (omega arith) }

pub numbers_more : (f : ℕ → Fraction) (n : ℕ) (xs ys : List Fraction) (x : Fraction) → ListsNumbers n f xs → x ≡ f n → IsNarrow x → ys ≡ xs ++ x ∷ [] → ListsNumbers (n + 1) f ys
numbers_more f n xs ys x h e narrow grown =
    let at_end : number_at (xs ++ x ∷ []) n ≡ x = ap (λ k. number_at (xs ++ x ∷ []) k) (sym h.length_is) ∙ number_at-append_new xs x in
    subst (λ (z : List Fraction). ListsNumbers (n + 1) f z) (sym grown)
    (record {
      length_is = length-append xs (x ∷ []) ∙ ap (λ k. k + 1) h.length_is;
      number_is = λ k q. elim (cases_eq k n) [
        | inl s ↦ subst (λ (j : ℕ). number_at (xs ++ x ∷ []) j ≡ f j) (sym s) (at_end ∙ e)
        | inr ne ↦ number_at-append_old xs x k (omega (arith, h.length_is)) ∙ h.number_is k (omega arith)
      ];
      narrow = λ k q. elim (cases_eq k n) [
        | inl s ↦ subst (λ (j : ℕ). IsNarrow (number_at (xs ++ x ∷ []) j)) (sym s) (subst IsNarrow (sym at_end) narrow)
        | inr ne ↦ subst IsNarrow (sym (number_at-append_old xs x k (omega (arith, h.length_is)))) (h.narrow k (omega arith))
      ];
    })

row_at-append_old : (rows : List Numbers) (v : Numbers) (i : ℕ) → i < length rows → row_at (rows ++ v ∷ []) i ≡ row_at rows i
row_at-append_old [] v i h = absurd (omega arith)
row_at-append_old (r ∷ rows) v zero h = refl
row_at-append_old (r ∷ rows) v (suc i) h = row_at-append_old rows v i (omega arith)

row_at-append_new : (rows : List Numbers) (v : Numbers) → row_at (rows ++ v ∷ []) (length rows) ≡ v.items
row_at-append_new [] v = refl
row_at-append_new (r ∷ rows) v = row_at-append_new rows v

pub rows_none : (l : Linear) (rows : List Numbers) → rows ≡ [] → ListsRows l 0 rows
rows_none l rows e = record { length_is = ap (λ (x : List Numbers). length x) e; row_is = λ g h. absurd (omega arith) }

pub rows_more : (l : Linear) (n w : ℕ) (rows new : List Numbers) (v : Numbers) → ListsRows l n rows → w ≡ suc (width_of l) → ListsNumbers w (first_number l n) v.items → new ≡ rows ++ v ∷ [] → ListsRows l (n + 1) new
rows_more l n w rows new v h ew r grown =
    let at_end : row_at (rows ++ v ∷ []) n ≡ v.items = ap (λ k. row_at (rows ++ v ∷ []) k) (sym h.length_is) ∙ row_at-append_new rows v in
    let here : ListsNumbers (suc (width_of l)) (first_number l n) v.items = subst (λ (k : ℕ). ListsNumbers k (first_number l n) v.items) ew r in
    subst (λ (z : List Numbers). ListsRows l (n + 1) z) (sym grown)
    (record {
      length_is = length-append rows (v ∷ []) ∙ ap (λ k. k + 1) h.length_is;
      row_is = λ g q. elim (cases_eq g n) [
        | inl s ↦ subst (λ (j : ℕ). ListsNumbers (suc (width_of l)) (first_number l j) (row_at (rows ++ v ∷ []) j)) (sym s)
            (subst (λ (z : List Fraction). ListsNumbers (suc (width_of l)) (first_number l n) z) (sym at_end) here)
        | inr ne ↦ subst (λ (z : List Fraction). ListsNumbers (suc (width_of l)) (first_number l g) z) (sym (row_at-append_old rows v g (omega (arith, h.length_is)))) (h.row_is g (omega arith))
      ];
    })

up_by_one : (k n : ℕ) → k + suc n ≡ suc k + n
up_by_one k n = omega arith

suc_plus : (n : ℕ) → suc (n + 1) ≡ suc n + 1
suc_plus n = omega arith

pub count_up_more : (k n : ℕ) → count_up k n ++ (k + n) ∷ [] ≡ count_up k (n + 1)
count_up_more k zero = let e : k + 0 ≡ k = omega arith in ap (λ (x : ℕ). x ∷ []) e
count_up_more k (suc n) =
    ap (λ (x : List ℕ). k ∷ x) (ap (λ (j : ℕ). count_up (suc k) n ++ j ∷ []) (up_by_one k n) ∙ count_up_more (suc k) n) ∙ ap (λ (j : ℕ). count_up k j) (suc_plus n)

pub count_up_next : (n : ℕ) (xs ys : List ℕ) → xs ≡ count_up 0 n → ys ≡ xs ++ n ∷ [] → ys ≡ count_up 0 (n + 1)
count_up_next n xs ys e grown =
    let z : 0 + n ≡ n = omega arith in
    grown ∙ (ap (λ (x : List ℕ). x ++ n ∷ []) e ∙ (ap (λ (j : ℕ). count_up 0 n ++ j ∷ []) (sym z) ∙ count_up_more 0 n))
