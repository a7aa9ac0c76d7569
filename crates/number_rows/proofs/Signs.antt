-- The signs of numbers over one denominator, and how their quotients compare.
use Rattle.std.specs.Prelude.{◌≡◌, ◌≢◌, ℕ, ◌<◌, ◌^◌, ℤ, pos, negsuc, ◌*ℤ◌, ◌<ℤ◌, IsTrue, ◌↔◌, nat_eq, unsigned_abs}
use Rattle.std.specs.Int.{w64, w128}
use Rattle.std.specs.Int.Signed.{lt_z}
use Rattle.std.specs.Ordering.{MatchOrdering, int_cmp}
use Rattle.std.specs.declared.cmp.Ordering.{Ordering}
use Rattle.std.proofs.Common.{refl, sym, ap, subst, ◌∙◌, arith, to_z, of_z, eq-eqb, eqb-true}
use Rattle.std.proofs.lemmas.Int.{ints}
use Rattle.std.proofs.lemmas.Cmp.{int_ranked}
use borrow.Author.Differences.{below_in, lt-true, true_is_lt, lt_out}
use Rattle.fractions.specs.Fraction.{Fraction, frac, zero_fraction, ◌/ʳ◌, ◌<ʳ◌, ◌≤ʳ◌}
use Rattle.fractions.specs.Fracs.{frac_eq, cross_from_same, zero-frac}
use Rattle.fractions.proofs.Order.{positive_frac, positive_of_frac, nonneg_frac, <ʳ_not_≤ʳ, ≤ʳ_refl}
use Rattle.fractions.proofs.Compare.{match_map}
use Rattle.fractions.proofs.Parts.{whole_back}
use Rattle.number_rows.proofs.Lists.{wrap, back, times_one}
use Rattle.number_rows.proofs.Short.{quotient_is, frac_lt}

pub above_by : (x : Fraction) (t : ℤ) (b : ℕ) → 0 < b → unsigned_abs t < 2 ^ 62 → x ≡ frac t b → IsTrue (lt_z (pos 0) (wrap t)) ↔ (zero_fraction <ʳ x)
above_by x t b p h e =
    subst (λ (k : ℤ). IsTrue (lt_z (pos 0) k) ↔ (zero_fraction <ʳ x)) (sym (back t (omega (arith, h))))
    (subst (λ (y : Fraction). IsTrue (lt_z (pos 0) t) ↔ (zero_fraction <ʳ y)) (sym e)
    (λ k. positive_frac t b p (below_in (pos 0) t (lt-true (pos 0) t k)), λ k. sym (true_is_lt (pos 0) t (lt_out (pos 0) t (positive_of_frac t b p k)))))

none_times : (b : ℕ) → pos 0 *ℤ pos b ≡ pos 0
none_times b = omega (arith, ints)

below_zero : (t : ℤ) (b : ℕ) → 0 < b → t <ℤ pos 0 → frac t b <ʳ zero_fraction
below_zero t b p h =
    subst (λ (y : Fraction). frac t b <ʳ y) (zero-frac 1 (omega arith))
    (frac_lt t (pos 0) b 1 p (omega arith) (subst (λ (k : ℤ). (t *ℤ pos 1) <ℤ k) (sym (none_times b)) (subst (λ (k : ℤ). k <ℤ pos 0) (sym (times_one t)) h)))

top_below : (t : ℤ) (b : ℕ) → 0 < b → frac t b <ʳ zero_fraction → t <ℤ pos 0
top_below (pos n) b p h = absurd (<ʳ_not_≤ʳ (frac (pos n) b) zero_fraction h (nonneg_frac (pos n) b p (omega (arith, ints))))
top_below (negsuc n) b p h = omega (arith, ints)

pub below_by : (x : Fraction) (t : ℤ) (b : ℕ) → 0 < b → unsigned_abs t < 2 ^ 62 → x ≡ frac t b → IsTrue (lt_z (wrap t) (pos 0)) ↔ (x <ʳ zero_fraction)
below_by x t b p h e =
    subst (λ (k : ℤ). IsTrue (lt_z k (pos 0)) ↔ (x <ʳ zero_fraction)) (sym (back t (omega (arith, h))))
    (subst (λ (y : Fraction). IsTrue (lt_z t (pos 0)) ↔ (y <ʳ zero_fraction)) (sym e)
    (λ k. below_zero t b p (below_in t (pos 0) (lt-true t (pos 0) k)), λ k. sym (true_is_lt t (pos 0) (lt_out t (pos 0) (top_below t b p k)))))

pub top_none : (t : ℤ) (b : ℕ) → 0 < b → frac t b ≡ zero_fraction → t ≡ pos 0
top_none t b p h = sym (times_one t) ∙ (cross_from_same t (pos 0) b 1 p (omega arith) (h ∙ sym (zero-frac 1 (omega arith))) ∙ none_times b)

pub zero_by : (x : Fraction) (t : ℤ) (b : ℕ) → 0 < b → unsigned_abs t < 2 ^ 62 → x ≡ frac t b → IsTrue (nat_eq (of_z w64 t) 0) ↔ (x ≡ zero_fraction)
zero_by x t b p h e = (
  λ k. e ∙ (ap (λ s. frac s b) (sym (back t (omega (arith, h))) ∙ ap (to_z w64) (eqb-true (of_z w64 t) 0 k)) ∙ zero-frac b p),
  λ k. eq-eqb (of_z w64 t) 0 (ap (of_z w64) (top_none t b p (sym e ∙ k))),
)

-- the same for a number that comes back in any way
pub above_at : (x : Fraction) (t w : ℤ) (b : ℕ) → 0 < b → w ≡ t → x ≡ frac t b → IsTrue (lt_z (pos 0) w) ↔ (zero_fraction <ʳ x)
above_at x t w b p ew e =
    subst (λ (k : ℤ). IsTrue (lt_z (pos 0) k) ↔ (zero_fraction <ʳ x)) (sym ew)
    (subst (λ (y : Fraction). IsTrue (lt_z (pos 0) t) ↔ (zero_fraction <ʳ y)) (sym e)
    (λ k. positive_frac t b p (below_in (pos 0) t (lt-true (pos 0) t k)), λ k. sym (true_is_lt (pos 0) t (lt_out (pos 0) t (positive_of_frac t b p k)))))

pub below_at : (x : Fraction) (t w : ℤ) (b : ℕ) → 0 < b → w ≡ t → x ≡ frac t b → IsTrue (lt_z w (pos 0)) ↔ (x <ʳ zero_fraction)
below_at x t w b p ew e =
    subst (λ (k : ℤ). IsTrue (lt_z k (pos 0)) ↔ (x <ʳ zero_fraction)) (sym ew)
    (subst (λ (y : Fraction). IsTrue (lt_z t (pos 0)) ↔ (y <ʳ zero_fraction)) (sym e)
    (λ k. below_zero t b p (below_in t (pos 0) (lt-true t (pos 0) k)), λ k. sym (true_is_lt t (pos 0) (lt_out t (pos 0) (top_below t b p k)))))

pub zero_at : (x : Fraction) (t i : ℤ) (b : ℕ) → 0 < b → i ≡ t → unsigned_abs t < 2 ^ 125 → x ≡ frac t b → IsTrue (nat_eq (of_z w128 i) 0) ↔ (x ≡ zero_fraction)
zero_at x t i b p ei h e =
    subst (λ (k : ℤ). IsTrue (nat_eq (of_z w128 k) 0) ↔ (x ≡ zero_fraction)) (sym ei) (
      λ k. e ∙ (ap (λ s. frac s b) (sym (whole_back t (omega (arith, h))) ∙ ap (to_z w128) (eqb-true (of_z w128 t) 0 k)) ∙ zero-frac b p),
      λ k. eq-eqb (of_z w128 t) 0 (ap (of_z w128) (top_none t b p (sym e ∙ k))),
    )

-- ---- quotients
some_top : (p : ℤ) (d : ℕ) → 0 < d → zero_fraction <ʳ frac p d → pos 0 <ℤ p
some_top p d pd h = positive_of_frac p d pd h

abs_back : (p : ℤ) → pos 0 <ℤ p → p ≡ pos (unsigned_abs p)
abs_back (pos n) h = refl
abs_back (negsuc n) h = absurd (omega (arith, ints))

abs_some : (p : ℤ) → pos 0 <ℤ p → 0 < unsigned_abs p
abs_some p h = omega (arith, ints)

not_none : (p : ℤ) → pos 0 <ℤ p → p ≢ pos 0
not_none p h e = omega (arith, ints, ap unsigned_abs e)

pub quotient_short : (t p : ℤ) (d : ℕ) → 0 < d → zero_fraction <ʳ frac p d → frac t d /ʳ frac p d ≡ frac t (unsigned_abs p)
quotient_short t p d pd h =
    let s : pos 0 <ℤ p = some_top p d pd h in
    quotient_is t p t d (unsigned_abs p) pd (abs_some p s) (ap (λ k. t *ℤ k) (abs_back p s)) (not_none p s) (λ e. <ʳ_not_≤ʳ zero_fraction (frac p d) h (subst (λ (y : Fraction). y ≤ʳ zero_fraction) (sym e) (le_self zero_fraction)))
  where
    le_self : (x : Fraction) → x ≤ʳ x
    le_self x = ≤ʳ_refl x

pub compared_by : (x xe y ye : Fraction) (t p u q : ℤ) (d e : ℕ) (f s : ℤ) (r : Ordering) → 0 < d → 0 < e → x ≡ frac t d → xe ≡ frac p d → y ≡ frac u e → ye ≡ frac q e → zero_fraction <ʳ xe → zero_fraction <ʳ ye → f ≡ t *ℤ q → s ≡ u *ℤ p → r ≡ int_cmp f s → MatchOrdering r ((x /ʳ xe) <ʳ (y /ʳ ye)) ((x /ʳ xe) ≡ (y /ʳ ye)) ((y /ʳ ye) <ʳ (x /ʳ xe))
compared_by x xe y ye t p u q d e f s r pd pe ex exe ey eye hx hy ef es er =
    let hp : zero_fraction <ʳ frac p d = subst (λ (k : Fraction). zero_fraction <ʳ k) exe hx in
    let hq : zero_fraction <ʳ frac q e = subst (λ (k : Fraction). zero_fraction <ʳ k) eye hy in
    let sp : pos 0 <ℤ p = some_top p d pd hp in
    let sq : pos 0 <ℤ q = some_top q e pe hq in
    let a : x /ʳ xe ≡ frac t (unsigned_abs p) = ap (λ k. k /ʳ xe) ex ∙ (ap (λ k. frac t d /ʳ k) exe ∙ quotient_short t p d pd hp) in
    let b : y /ʳ ye ≡ frac u (unsigned_abs q) = ap (λ k. k /ʳ ye) ey ∙ (ap (λ k. frac u e /ʳ k) eye ∙ quotient_short u q e pe hq) in
    let ef' : f ≡ t *ℤ pos (unsigned_abs q) = ef ∙ ap (λ k. t *ℤ k) (abs_back q sq) in
    let es' : s ≡ u *ℤ pos (unsigned_abs p) = es ∙ ap (λ k. u *ℤ k) (abs_back p sp) in
    rw (a, b)
    (match_map r
    (λ h. frac_lt t u (unsigned_abs p) (unsigned_abs q) (abs_some p sp) (abs_some q sq) (rw (← ef', ← es') h))
    (λ h. frac_eq t u (unsigned_abs p) (unsigned_abs q) (abs_some p sp) (abs_some q sq) (sym ef' ∙ (h ∙ es')))
    (λ h. frac_lt u t (unsigned_abs q) (unsigned_abs p) (abs_some q sq) (abs_some p sp) (rw (← ef', ← es') h))
    (int_ranked f s r er))
