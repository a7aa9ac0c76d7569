-- What the edges of a column bring to a good less what they take is the column's part times its rate; and the parts of a plan's columns
-- sum to what is wanted.
use Rattle.std.proofs.Common.{◌≡◌, ◌≢◌, ◌∙◌, ℕ, suc, ◌<◌, ◌≤◌, ◌==◌, Bool, true, false, List, [], ◌∷◌, Option, Some, None, slice_get, refl, sym, ap, arith, if◌then◌else◌, ne_eqb, eqb-true}
use Rattle.fractions.specs.Fraction.{Fraction, zero_fraction, one_fraction, negated, ◌+ʳ◌, ◌*ʳ◌}
use Rattle.fractions.specs.Fracs.{atom, nought, unit, opposite, ◌⊞◌, ◌⊠◌, same_amount}
use Rattle.fractions.specs.Signs.{is_positive}
use Rattle.game_types.specs.Steps.{is_narrow}
use Rattle.linear_table.specs.Parts.{part_at}
use Rattle.linear_table.specs.Plans.{column_count, column_part, good_count, number_at, parts_of, want_at, IsPlan, IsSoundColumn, IsWellFormed, Rises}
use Rattle.linear_table.specs.System.{sum_below}
use Rattle.linear_table.specs.declared.Linear.{Linear}
use Rattle.linear_table.specs.declared.LinearColumn.{LinearColumn}
use Rattle.linear_table.proofs.Sums.{sum_cong, sum_plus}
use Rattle.page_parts.specs.declared.amounts.Amount.{Amount}
use Rattle.page_parts.specs.declared.amounts.Amount.TheVariants.{Exact, Wide}
use Rattle.page_parts.specs.Flows.{flows_of, product}
use Rattle.plan_charts.specs.Edges.{AllExact, AreExact, EdgesBalance, brought, edges_at, into, number_of, out_of, taken}

-- ---- one edge
number_by : (fits : Bool) (x : Fraction) → (if fits then Exact x else Wide) ≢ Wide → number_of (if fits then Exact x else Wide) ≡ x
number_by true x exact = refl
number_by false x exact = absurd (exact refl)

product_number : (x y : Fraction) → product x y ≢ Wide → number_of (product x y) ≡ x *ʳ y
unfolding product
product_number x y exact = number_by (is_narrow (x *ʳ y)) (x *ʳ y) exact

here : (gives : Bool) (x brought_rest taken_rest : Fraction) → brought_rest ≡ zero_fraction → taken_rest ≡ zero_fraction
    → out_of true gives x +ʳ brought_rest ≡ x +ʳ one_fraction *ʳ (into true gives x +ʳ taken_rest)
here true x b t eb et = rw (eb, et) (same_amount (atom x ⊞ nought) (atom x ⊞ unit ⊠ (nought ⊞ nought)) (omega arith))
here false x b t eb et = rw (eb, et) (same_amount (nought ⊞ nought) (atom x ⊞ unit ⊠ (opposite (atom x) ⊞ nought)) (omega arith))

elsewhere : (gives : Bool) (x y brought_rest taken_rest : Fraction) → brought_rest ≡ y +ʳ one_fraction *ʳ taken_rest
    → out_of false gives x +ʳ brought_rest ≡ y +ʳ one_fraction *ʳ (into false gives x +ʳ taken_rest)
elsewhere gives x y b t e = rw e (same_amount (nought ⊞ (atom y ⊞ unit ⊠ atom t)) (atom y ⊞ unit ⊠ (nought ⊞ atom t)) (omega arith))

nothing : (gives : Bool) (x rest : Fraction) → rest ≡ zero_fraction → out_of false gives x +ʳ rest ≡ zero_fraction
nothing gives x rest e = rw e (same_amount (nought ⊞ nought) nought (omega arith))

nothing_taken : (gives : Bool) (x rest : Fraction) → rest ≡ zero_fraction → into false gives x +ʳ rest ≡ zero_fraction
nothing_taken gives x rest e = rw e (same_amount (nought ⊞ nought) nought (omega arith))

-- ---- a column: parts of later goods don't reach an earlier one
other : (a b : ℕ) → b < a → (a == b) ≡ false
other a b less = ne_eqb a b (omega arith)

none_brought : (k n : ℕ) (rate : Fraction) (parts : List (ℕ × Fraction)) (good : ℕ) → Rises k n parts → good < k → brought (flows_of rate parts) good ≡ zero_fraction
none_brought k n rate [] good rises less = refl
none_brought k n rate (p ∷ ps) good rises less =
    ap (λ b. out_of b (is_positive p.1) (number_of (product p.1 rate)) +ʳ brought (flows_of rate ps) good) (other p.0 good (let low : k ≤ p.0 = rises.0 in omega arith))
    ∙ nothing (is_positive p.1) (number_of (product p.1 rate)) (brought (flows_of rate ps) good) (none_brought (suc p.0) n rate ps good rises.2 (let low : k ≤ p.0 = rises.0 in omega arith))

none_taken : (k n : ℕ) (rate : Fraction) (parts : List (ℕ × Fraction)) (good : ℕ) → Rises k n parts → good < k → taken (flows_of rate parts) good ≡ zero_fraction
none_taken k n rate [] good rises less = refl
none_taken k n rate (p ∷ ps) good rises less =
    ap (λ b. into b (is_positive p.1) (number_of (product p.1 rate)) +ʳ taken (flows_of rate ps) good) (other p.0 good (let low : k ≤ p.0 = rises.0 in omega arith))
    ∙ nothing_taken (is_positive p.1) (number_of (product p.1 rate)) (taken (flows_of rate ps) good) (none_taken (suc p.0) n rate ps good rises.2 (let low : k ≤ p.0 = rises.0 in omega arith))

-- a part and the rest, by whether the part is of the good
by_good : (same : Bool) (gives : Bool) (part rate amount more brought_rest taken_rest : Fraction) → amount ≡ part *ʳ rate
    → (same ≡ true → (brought_rest ≡ zero_fraction) × (taken_rest ≡ zero_fraction)) → brought_rest ≡ more *ʳ rate +ʳ one_fraction *ʳ taken_rest
    → out_of same gives amount +ʳ brought_rest ≡ (if same then part else more) *ʳ rate +ʳ one_fraction *ʳ (into same gives amount +ʳ taken_rest)
by_good true gives part rate amount more b t is rests e = here gives amount b t (rests refl).0 (rests refl).1 ∙ ap (λ x. x +ʳ one_fraction *ʳ (into true gives amount +ʳ t)) is
by_good false gives part rate amount more b t is rests e = elsewhere gives amount (more *ʳ rate) b t e

pub column_split : (k n : ℕ) (rate : Fraction) (parts : List (ℕ × Fraction)) (good : ℕ) → Rises k n parts → AreExact (flows_of rate parts)
    → brought (flows_of rate parts) good ≡ part_at parts good *ʳ rate +ʳ one_fraction *ʳ taken (flows_of rate parts) good
column_split k n rate [] good rises exact = same_amount nought (nought ⊠ atom rate ⊞ unit ⊠ nought) (omega arith)
column_split k n rate (p ∷ ps) good rises exact =
    by_good (p.0 == good) (is_positive p.1) p.1 rate (number_of (product p.1 rate)) (part_at ps good) (brought (flows_of rate ps) good) (taken (flows_of rate ps) good)
    (product_number p.1 rate exact.0)
    (λ same. let is : p.0 ≡ good = eqb-true p.0 good same in
    (none_brought (suc p.0) n rate ps good rises.2 (omega arith), none_taken (suc p.0) n rate ps good rises.2 (omega arith)))
    (column_split (suc p.0) n rate ps good rises.2 exact.1)

-- ---- all columns
rises_at : (l : Linear) (found : Option LinearColumn) → ((c : LinearColumn) → found ≡ Some c → Rises 0 (good_count l) c.parts) → Rises 0 (good_count l) (parts_of found)
rises_at l (Some c) sound = sound c refl
rises_at l None sound = tt

pub balances : (l : Linear) (rates : List Fraction) → IsWellFormed l → IsPlan l rates → AllExact l rates → EdgesBalance l rates
balances l rates formed plan exact = λ good within.
    sum_cong (column_count l) (λ j. brought (edges_at l rates j) good) (λ j. column_part l j good *ʳ number_at rates j +ʳ one_fraction *ʳ taken (edges_at l rates j) good)
    (λ j below. column_split 0 (good_count l) (number_at rates j) (parts_of (slice_get l.columns j)) good
    (rises_at l (slice_get l.columns j) (λ c is. (formed.columns j c is).parts_rise)) (exact j below))
    ∙ sum_plus (column_count l) (λ j. column_part l j good *ʳ number_at rates j) (λ j. taken (edges_at l rates j) good) one_fraction
    ∙ ap (λ x. x +ʳ one_fraction *ʳ sum_below (column_count l) (λ j. taken (edges_at l rates j) good)) (plan.balances good within)
    ∙ same_amount (atom (want_at l good) ⊞ unit ⊠ atom (sum_below (column_count l) (λ j. taken (edges_at l rates j) good)))
    (atom (want_at l good) ⊞ atom (sum_below (column_count l) (λ j. taken (edges_at l rates j) good))) (omega arith)
