-- What the calls of an exchange of rows make of them.
use Rattle.std.specs.Prelude.{◌≡◌, ◌≢◌, ℕ, ◌<◌, List, length}
use Rattle.std.proofs.Common.{sym, ap, subst, ◌∙◌, arith, set}
use Rattle.std.proofs.Math.ListN.{length-set}
use Rattle.fractions.specs.Fraction.{Fraction, ◌/ʳ◌}
use Rattle.linear_table.specs.Plans.{number_at}
use Rattle.linear_table.specs.Wide.{LessFits}
use Rattle.pivot_solver.specs.Rows.{Numbers, AreNarrow, IsDividedRow, IsReducedRow, AreReducedRows, row_at}
use Rattle.pivot_solver.specs.Tableau.{IsPivoted}
use Rattle.pivot_solver.specs.WideAt.{quotient, IsWideInRow, IsWideInCost}
use Rattle.pivot_solver.proofs.ManyRows.{row_at-set_same, row_at-set_other}

pub pivoted_rows : (rows new : List Numbers) (cost new_cost : List Fraction) (row enter : ℕ) (v e p : Numbers) → row < length rows → v.items ≡ row_at rows row → IsDividedRow v.items (number_at v.items enter) p.items → AreReducedRows (set rows row e) row enter p.items new → IsReducedRow cost (number_at cost enter) p.items new_cost →
    IsPivoted rows cost row enter (set new row p) new_cost
pivoted_rows rows new cost new_cost row enter v e p lt ev d r c =
    let count : length new ≡ length rows = r.length_is ∙ length-set rows row e in
    let here : row_at (set new row p) row ≡ p.items = row_at-set_same new row p (omega (arith, lt, count)) in
    record {
      row_count = length-set new row p ∙ count;
      pivot_row = subst (λ (x : List Fraction). IsDividedRow (row_at rows row) (number_at (row_at rows row) enter) x) (sym here) (subst (λ (x : List Fraction). IsDividedRow x (number_at x enter) p.items) ev d);
      others = λ i q ne.
          let old : row_at (set rows row e) i ≡ row_at rows i = row_at-set_other rows row i e ne in
          let now : row_at (set new row p) i ≡ row_at new i = row_at-set_other new row i p ne in
          subst (λ (x : List Fraction). IsReducedRow (row_at rows i) (number_at (row_at rows i) enter) x (row_at (set new row p) i)) (sym here)
          (subst (λ (x : List Fraction). IsReducedRow (row_at rows i) (number_at (row_at rows i) enter) p.items x) (sym now)
          (subst (λ (x : List Fraction). IsReducedRow x (number_at x enter) p.items (row_at new i)) old (r.others i (omega (arith, q, length-set rows row e)) ne)));
      cost_row = subst (λ (x : List Fraction). IsReducedRow cost (number_at cost enter) x new_cost) (sym here) c;
    }

quotient_at : (rows : List Numbers) (row enter k : ℕ) (v p : Numbers) → v.items ≡ row_at rows row → IsDividedRow v.items (number_at v.items enter) p.items → k < length p.items → number_at p.items k ≡ quotient rows row enter k
quotient_at rows row enter k v p ev d lt =
    d.numbers k (omega (arith, lt, d.length_is)) ∙ ap (λ (x : List Fraction). number_at x k /ʳ number_at x enter) ev

divided_length : (rows : List Numbers) (row enter : ℕ) (v p : Numbers) → v.items ≡ row_at rows row → IsDividedRow v.items (number_at v.items enter) p.items → length p.items ≡ length (row_at rows row)
divided_length rows row enter v p ev d = d.length_is ∙ ap (λ (x : List Fraction). length x) ev

pub divided_width : (rows : List Numbers) (cost : List Fraction) (row enter : ℕ) (v p : Numbers) → v.items ≡ row_at rows row → IsDividedRow v.items (number_at v.items enter) p.items → length cost ≡ length (row_at rows row) → length cost ≡ length p.items
divided_width rows cost row enter v p ev d w = w ∙ sym (divided_length rows row enter v p ev d)

-- the other rows, where another one stands in the place of the row that is taken out
pub others_width : (rows : List Numbers) (row enter : ℕ) (v e p : Numbers) → v.items ≡ row_at rows row → IsDividedRow v.items (number_at v.items enter) p.items
    → ((i : ℕ) → i < length rows → length (row_at rows i) ≡ length (row_at rows row)) → (i : ℕ) → i < length (set rows row e) → i ≢ row → length (row_at (set rows row e) i) ≡ length p.items
others_width rows row enter v e p ev d widths i lt ne =
    ap (λ (x : List Fraction). length x) (row_at-set_other rows row i e ne) ∙ widths i (omega (arith, lt, length-set rows row e)) ∙ sym (divided_length rows row enter v p ev d)

pub others_narrow : (rows : List Numbers) (row : ℕ) (e : Numbers) → ((i : ℕ) → i < length rows → AreNarrow (row_at rows i)) → (i : ℕ) → i < length (set rows row e) → i ≢ row → AreNarrow (row_at (set rows row e) i)
others_narrow rows row e narrow i lt ne =
    subst (λ (x : List Fraction). AreNarrow x) (sym (row_at-set_other rows row i e ne)) (narrow i (omega (arith, lt, length-set rows row e)))

pub wide_row : (rows : List Numbers) (row enter i k : ℕ) (v e p : Numbers) → v.items ≡ row_at rows row → IsDividedRow v.items (number_at v.items enter) p.items → i < length (set rows row e) → i ≢ row → k < length p.items → ¬ LessFits (number_at (row_at (set rows row e) i) k) (number_at (row_at (set rows row e) i) enter) (number_at p.items k) →
    IsWideInRow rows row enter i k
wide_row rows row enter i k v e p ev d lt ne lk wide =
    let old : row_at (set rows row e) i ≡ row_at rows i = row_at-set_other rows row i e ne in
    record {
      inside = omega (arith, lt, length-set rows row e);
      place = omega (arith, lk, divided_length rows row enter v p ev d);
      divided = λ same. absurd (ne same);
      reduced = λ other. subst (λ (x : List Fraction). ¬ LessFits (number_at x k) (number_at x enter) (quotient rows row enter k)) old
          (subst (λ (x : Fraction). ¬ LessFits (number_at (row_at (set rows row e) i) k) (number_at (row_at (set rows row e) i) enter) x) (quotient_at rows row enter k v p ev d lk) wide);
    }

pub wide_cost : (rows : List Numbers) (cost : List Fraction) (row enter k : ℕ) (v p : Numbers) → v.items ≡ row_at rows row → IsDividedRow v.items (number_at v.items enter) p.items → length cost ≡ length (row_at rows row) → k < length cost → ¬ LessFits (number_at cost k) (number_at cost enter) (number_at p.items k) → IsWideInCost rows cost row enter k
wide_cost rows cost row enter k v p ev d w lk wide =
    record {
      place = omega (arith, lk, w);
      reduced = subst (λ (x : Fraction). ¬ LessFits (number_at cost k) (number_at cost enter) x) (quotient_at rows row enter k v p ev d (omega (arith, lk, w, divided_length rows row enter v p ev d))) wide;
    }
