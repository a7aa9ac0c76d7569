-- The first numbers are a tableau of the unit columns.
use Rattle.std.specs.Prelude.{◌≡◌, ℕ, zero, suc, ◌+◌, ◌<◌, List}
use Rattle.std.proofs.Common.{sym, ap, subst, ◌∙◌, arith, inl, inr, get_or}
use Rattle.std.proofs.lemmas.Bool.{cases_lt}
use Rattle.number_rows.specs.Changed.{Numbers}
use Rattle.fractions.specs.Fraction.{Fraction, zero_fraction, negated, ◌-ʳ◌, ◌*ʳ◌}
use Rattle.fractions.specs.Fracs.{atom, nought, ◌⊟◌, opposite, same_amount}
use Rattle.fractions.proofs.Laws.{*ʳ-zero, zero-*ʳ}
use Rattle.linear_table.specs.System.{System, IsSound, Entries, AreEntries, sum_below, reduced, total}
use Rattle.linear_table.specs.Trail.{count_up, first_basis}
use Rattle.linear_table.specs.Plans.{good_count, want_at, IsWellFormed}
use Rattle.linear_table.specs.Basis.{system_of}
use Rattle.linear_table.specs.declared.Linear.{Linear}
use Rattle.linear_table.proofs.Sums.{sum_zero}
use Rattle.linear_table.proofs.First.{first_is_basis, unit_weights, unit_weights_at, unit_weights_past, units_comb}
use Rattle.linear_table.proofs.Settled.{system_sound, at_unit, at_table}
use Rattle.pivot_solver.specs.First.{width_of, first_cost, ListsNumbers, ListsRows}
use Rattle.pivot_solver.specs.Tableau.{IsTableau}

get_or-count_up : (k n i : ℕ) → i < n → get_or (count_up k n) i 0 ≡ k + i
get_or-count_up k zero i h = absurd (omega arith)
get_or-count_up k (suc n) zero h = omega arith
get_or-count_up k (suc n) (suc i) h = let e : suc k + i ≡ k + suc i = omega arith in get_or-count_up (suc k) n i (omega arith) ∙ e

-- the entries of the unit columns
pub first_entries : System → Entries
first_entries s = record { entry = λ c. unit_weights s (s.part c); value = unit_weights s s.want }

pub first_are_entries : (s : System) → IsSound s → AreEntries s (first_basis s) (first_entries s)
unfolding first_entries
first_are_entries s sound = record { columns = λ c. units_comb s (s.part c) sound; wanted = units_comb s s.want sound }

-- each product with a price is 0: the weight is, or the price of a unit column
priced_zero : (s : System) (w : ℕ → Fraction) (r : ℕ) → IsSound s → unit_weights s w r *ʳ s.price r ≡ zero_fraction
priced_zero s w r sound =
    elim (cases_lt r s.goods) [
      | inl lt ↦ ap (λ x. unit_weights s w r *ʳ x) (sound.unit_price r lt) ∙ *ʳ-zero (unit_weights s w r)
      | inr le ↦ ap (λ x. x *ʳ s.price r) (unit_weights_past s w r le) ∙ zero-*ʳ (s.price r)
    ]

worth_zero : (s : System) (w : ℕ → Fraction) → IsSound s → sum_below (s.goods + s.lines) (λ r. unit_weights s w r *ʳ s.price r) ≡ zero_fraction
worth_zero s w sound = sum_zero (s.goods + s.lines) (λ r. unit_weights s w r *ʳ s.price r) (λ r q. priced_zero s w r sound)

minus_zero : (x y : Fraction) → y ≡ zero_fraction → x ≡ x -ʳ y
minus_zero x y e = same_amount (atom x) (atom x ⊟ nought) (omega arith) ∙ ap (λ (k : Fraction). x -ʳ k) (sym e)

first_reduced : (s : System) (c : ℕ) → IsSound s → reduced s s.price (first_entries s) c ≡ s.price c
unfolding first_entries
first_reduced s c sound = sym (minus_zero (s.price c) (sum_below (s.goods + s.lines) (λ r. unit_weights s (s.part c) r *ʳ s.price r)) (worth_zero s (s.part c) sound))

negated_none : (x : Fraction) → x ≡ zero_fraction → zero_fraction ≡ negated x
negated_none x e = same_amount nought (opposite nought) (omega arith) ∙ ap negated (sym e)

first_total : (s : System) → IsSound s → zero_fraction ≡ negated (total s s.price (first_entries s))
unfolding first_entries
first_total s sound = negated_none (sum_below (s.goods + s.lines) (λ r. unit_weights s s.want r *ʳ s.price r)) (worth_zero s s.want sound)

entry_of_unit : (s : System) (w : ℕ → Fraction) (i : ℕ) → i < s.goods → w i ≡ unit_weights s w (get_or (first_basis s) i 0)
entry_of_unit s w i h = let z : 0 + i ≡ i = omega arith in sym (unit_weights_at s w i h) ∙ ap (unit_weights s w) (sym (get_or-count_up 0 s.goods i h ∙ z))

pub first_tableau : (l : Linear) (n w : ℕ) (basis : List ℕ) (rows : List Numbers) (cost : List Fraction) → IsWellFormed l → n ≡ good_count l → w ≡ suc (width_of l) → basis ≡ count_up 0 n → ListsRows l n rows → ListsNumbers w (first_cost l) cost →
    IsTableau (system_of l) basis rows cost
first_tableau l n w basis rows cost well en ew eb hr hc =
    let s : System = system_of l in
    let sound : IsSound s = system_sound l well in
    let r : ListsRows l (good_count l) rows = subst (λ (k : ℕ). ListsRows l k rows) en hr in
    let c : ListsNumbers (suc (width_of l)) (first_cost l) cost = subst (λ (k : ℕ). ListsNumbers k (first_cost l) cost) ew hc in
    let e : first_basis s ≡ basis = sym (eb ∙ ap (λ (k : ℕ). count_up 0 k) en) in
    subst (λ (b : List ℕ). IsTableau s b rows cost) e
    (record {
      is_basis = first_is_basis s sound;
      entries = first_entries s;
      are_entries = first_are_entries s sound;
      row_count = r.length_is;
      widths = λ i h. (r.row_is i h).length_is;
      cost_width = c.length_is;
      entry_is = λ i k h q. (r.row_is i h).number_is k (omega arith) ∙ (at_unit (width_of l) k (s.part k i) (want_at l i) q ∙ unfold first_entries in entry_of_unit s (s.part k) i h);
      value_is = λ i h. (r.row_is i h).number_is (width_of l) (omega arith) ∙ (at_table (width_of l) (width_of l) (s.part (width_of l) i) (want_at l i) (omega arith) ∙ unfold first_entries in entry_of_unit s s.want i h);
      reduced_is = λ k q. c.number_is k (omega arith) ∙ (at_unit (width_of l) k (s.price k) zero_fraction q ∙ sym (first_reduced s k sound));
      total_is = c.number_is (width_of l) (omega arith) ∙ (at_table (width_of l) (width_of l) (s.price (width_of l)) zero_fraction (omega arith) ∙ first_total s sound);
      narrow_rows = λ i k h q. (r.row_is i h).narrow k q;
      narrow_cost = λ k q. c.narrow k q;
    })
