-- Whole numbers of 128 bits over one denominator.
use Rattle.std.specs.Prelude.{◌≡◌, ◌≢◌, ℕ, ◌+◌, ◌*◌, ◌<◌, ◌≤◌, ◌^◌, ℤ, pos, ◌*ℤ◌, ◌-ℤ◌, int_div, unsigned_abs, List, length}
use Rattle.std.specs.Int.{◌∣◌, w128}
use Rattle.std.proofs.Common.{refl, sym, ap, subst, ◌∙◌, arith, set, below_more, to_z}
use Rattle.std.proofs.lemmas.Int.{ints, unsigned_abs-mul, to_z_pos}
use Rattle.std.proofs.lemmas.List.{get_or-set_same, get_or-set_other}
use Rattle.std.proofs.Math.Nat.{mul-le-mul_right, dvd-mul_left}
use Rattle.fractions.specs.Fraction.{frac, whole_fraction, zero_fraction, int_div-mul, mul_cancel, ◌/ʳ◌}
use Rattle.fractions.proofs.Parts.{whole_back}
use Rattle.number_rows.specs.Tops.{top_at}
use Rattle.number_rows.proofs.Lists.{wrap, back}
use Rattle.number_rows.proofs.Over.{wrap128}
use Rattle.number_rows.proofs.Short.{quotient_is}
use Rattle.number_rows.proofs.Signs.{top_none}

-- ---- one place more
pub record AreSameBelow (old new : List ℤ) (k : ℕ) : Type 0 where
  pub done : (j : ℕ) → j < k → top_at new j ≡ top_at old j

pub same_none : (old new : List ℤ) → AreSameBelow old new 0
same_none old new = record { done = λ j h. absurd (omega arith) }

pub same_more : (old new : List ℤ) (k : ℕ) (t : ℤ) → k < length new → t ≡ top_at old k → AreSameBelow old new k → AreSameBelow old (set new k t) (k + 1)
same_more old new k t lt e h =
    record {
      done = below_more (λ j. top_at (set new k t) j ≡ top_at old j) k
          (λ j q. get_or-set_other new k j t (pos 0) (λ i. omega arith) ∙ h.done j q)
          (get_or-set_same new k t (pos 0) lt ∙ e);
    }

-- a number of 64 bits where 128 are, and the other way round
pub widened : (t : ℤ) → unsigned_abs t < 2 ^ 62 → wrap128 (wrap t) ≡ t
widened t h = ap wrap128 (back t (omega (arith, h))) ∙ whole_back t (omega (arith, h))

pub narrowed : (t : ℤ) → unsigned_abs t < 2 ^ 62 → wrap (wrap128 t) ≡ t
narrowed t h = ap wrap (whole_back t (omega (arith, h))) ∙ back t (omega (arith, h))

-- ---- products
pub product_at : (t t' : ℤ) (m s : ℕ) → t' ≡ t → unsigned_abs t ≤ m → m * s < 2 ^ 124 → unsigned_abs t' * s < 2 ^ 124
product_at t t' m s e h q = rw e (omega (arith, mul-le-mul_right s h, q))

abs_wide : (a b : ℤ) → unsigned_abs a < 2 ^ 124 → unsigned_abs b < 2 ^ 124 → unsigned_abs (a -ℤ b) < 2 ^ 125
abs_wide a b ha hb = omega (arith, ints)

pub abs_product : (t f : ℤ) (s : ℕ) → unsigned_abs t * unsigned_abs f < s → unsigned_abs (t *ℤ f) < s
abs_product t f s h = subst (λ (k : ℕ). k < s) (sym (unsigned_abs-mul t f)) h

pub record IsWide (r v : ℤ) : Type 0 where
  pub value : r ≡ v
  pub small : unsigned_abs r < 2 ^ 125

-- what the code computes of a place
pub wide_is : (t o f : ℤ) (s : ℕ) → s < 2 ^ 62 → unsigned_abs t < 2 ^ 126 → unsigned_abs o < 2 ^ 62 → unsigned_abs f < 2 ^ 126 → unsigned_abs t * s < 2 ^ 124 → unsigned_abs o * unsigned_abs f < 2 ^ 124 →
    IsWide (wrap128 (wrap128 (wrap128 t *ℤ to_z w128 s) -ℤ wrap128 (wrap128 (wrap o) *ℤ wrap128 f))) (t *ℤ pos s -ℤ o *ℤ f)
wide_is t o f s hs ht ho hf h g =
    let ts : unsigned_abs (t *ℤ pos s) < 2 ^ 124 = abs_product t (pos s) (2 ^ 124) h in
    let of : unsigned_abs (o *ℤ f) < 2 ^ 124 = abs_product o f (2 ^ 124) g in
    let first : wrap128 (wrap128 t *ℤ to_z w128 s) ≡ t *ℤ pos s =
    ap (λ a. wrap128 (a *ℤ to_z w128 s)) (whole_back t (omega (arith, ht))) ∙ (ap (λ a. wrap128 (t *ℤ a)) (to_z_pos w128 s (omega (arith, hs))) ∙ whole_back (t *ℤ pos s) (omega (arith, ts))) in
    let second : wrap128 (wrap128 (wrap o) *ℤ wrap128 f) ≡ o *ℤ f =
    ap (λ a. wrap128 (a *ℤ wrap128 f)) (widened o ho) ∙ (ap (λ a. wrap128 (o *ℤ a)) (whole_back f (omega (arith, hf))) ∙ whole_back (o *ℤ f) (omega (arith, of))) in
    let size : unsigned_abs (t *ℤ pos s -ℤ o *ℤ f) < 2 ^ 125 = abs_wide (t *ℤ pos s) (o *ℤ f) ts of in
    let e : wrap128 (wrap128 (wrap128 t *ℤ to_z w128 s) -ℤ wrap128 (wrap128 (wrap o) *ℤ wrap128 f)) ≡ t *ℤ pos s -ℤ o *ℤ f =
    ap (λ a. wrap128 (a -ℤ wrap128 (wrap128 (wrap o) *ℤ wrap128 f))) first ∙ (ap (λ a. wrap128 (t *ℤ pos s -ℤ a)) second ∙ whole_back (t *ℤ pos s -ℤ o *ℤ f) (omega (arith, size))) in
    record { value = e; small = subst (λ (x : ℤ). unsigned_abs x < 2 ^ 125) (sym e) size }

pub wide_size : (t o f : ℤ) (s : ℕ) → s < 2 ^ 62 → unsigned_abs t < 2 ^ 126 → unsigned_abs o < 2 ^ 62 → unsigned_abs f < 2 ^ 126 → unsigned_abs t * s < 2 ^ 124 → unsigned_abs o * unsigned_abs f < 2 ^ 124 →
    unsigned_abs (wrap128 (wrap128 t *ℤ to_z w128 s) -ℤ wrap128 (wrap128 (wrap o) *ℤ wrap128 f)) < 2 ^ 127
wide_size t o f s hs ht ho hf h g =
    let ts : unsigned_abs (t *ℤ pos s) < 2 ^ 124 = abs_product t (pos s) (2 ^ 124) h in
    let of : unsigned_abs (o *ℤ f) < 2 ^ 124 = abs_product o f (2 ^ 124) g in
    let first : wrap128 (wrap128 t *ℤ to_z w128 s) ≡ t *ℤ pos s =
    ap (λ a. wrap128 (a *ℤ to_z w128 s)) (whole_back t (omega (arith, ht))) ∙ (ap (λ a. wrap128 (t *ℤ a)) (to_z_pos w128 s (omega (arith, hs))) ∙ whole_back (t *ℤ pos s) (omega (arith, ts))) in
    let second : wrap128 (wrap128 (wrap o) *ℤ wrap128 f) ≡ o *ℤ f =
    ap (λ a. wrap128 (a *ℤ wrap128 f)) (widened o ho) ∙ (ap (λ a. wrap128 (o *ℤ a)) (whole_back f (omega (arith, hf))) ∙ whole_back (o *ℤ f) (omega (arith, of))) in
    let size : unsigned_abs (t *ℤ pos s -ℤ o *ℤ f) < 2 ^ 125 = abs_wide (t *ℤ pos s) (o *ℤ f) ts of in
    rw (first, second) (omega (arith, size))

-- ---- a whole number over a denominator
size_zero : (b : ℕ) → 0 < b → pos b ≢ pos 0
size_zero b p e = let h : b ≡ 0 = ap unsigned_abs e in omega (arith, h, p)

pub fraction_is : (t : ℤ) (b : ℕ) → 0 < b → whole_fraction t /ʳ whole_fraction (pos b) ≡ frac t b
unfolding whole_fraction
fraction_is t b p = quotient_is t (pos b) t 1 b (omega arith) p refl (size_zero b p) (λ e. size_zero b p (top_none (pos b) 1 (omega arith) e))

pub whole_some : (b : ℕ) → 0 < b → whole_fraction (pos b) ≢ zero_fraction
unfolding whole_fraction
whole_some b p e = size_zero b p (top_none (pos b) 1 (omega arith) e)

-- ---- one quotient more
pub record IsDividedTo (old : List ℤ) (scale : ℤ) (other : List ℤ) (factor : ℤ) (d : ℕ) (tops : List ℤ) (k : ℕ) : Type 0 where
  pub done : (j : ℕ) → j < k → top_at tops j *ℤ pos d ≡ top_at old j *ℤ scale -ℤ top_at other j *ℤ factor
  pub rest : (j : ℕ) → k ≤ j → top_at tops j ≡ top_at old j

pub divided_to_none : (old : List ℤ) (s : ℤ) (other : List ℤ) (f : ℤ) (d : ℕ) → IsDividedTo old s other f d old 0
divided_to_none old s other f d = record { done = λ j h. absurd (omega arith); rest = λ j h. refl }

pub divided_to_more : (old : List ℤ) (s : ℤ) (other : List ℤ) (f : ℤ) (d : ℕ) (tops : List ℤ) (k : ℕ) (q : ℤ) → k < length tops → q *ℤ pos d ≡ top_at old k *ℤ s -ℤ top_at other k *ℤ f → IsDividedTo old s other f d tops k → IsDividedTo old s other f d (set tops k q) (k + 1)
divided_to_more old s other f d tops k q lt e h =
    record {
      done = below_more (λ j. top_at (set tops k q) j *ℤ pos d ≡ top_at old j *ℤ s -ℤ top_at other j *ℤ f) k
          (λ j p. ap (λ x. x *ℤ pos d) (get_or-set_other tops k j q (pos 0) (λ e. omega arith)) ∙ h.done j p)
          (ap (λ x. x *ℤ pos d) (get_or-set_same tops k q (pos 0) lt) ∙ e);
      rest = λ j p. get_or-set_other tops k j q (pos 0) (λ e. omega arith) ∙ h.rest j (omega arith);
    }

-- ---- what the code meets at a place of two rows
pub record IsPlace (t' o' t o : ℤ) (scale : ℕ) (factor : ℤ) : Type 0 where
  pub top : unsigned_abs (wrap128 t') < 2 ^ 125
  pub other : unsigned_abs (wrap o') < 2 ^ 62
  pub first : unsigned_abs (wrap128 t') * scale < 2 ^ 124
  pub second : unsigned_abs (wrap o') * unsigned_abs (wrap128 factor) < 2 ^ 124
  pub number : wrap128 t' *ℤ pos scale -ℤ wrap o' *ℤ wrap128 factor ≡ t *ℤ pos scale -ℤ o *ℤ wrap128 factor

pub place_is : (t' o' t o : ℤ) (scale : ℕ) (factor : ℤ) (bound other_bound : ℕ) → t' ≡ t → o' ≡ o → unsigned_abs t ≤ bound → unsigned_abs o ≤ other_bound → bound < 2 ^ 125 → other_bound < 2 ^ 62 → unsigned_abs factor < 2 ^ 125 → bound * scale < 2 ^ 124 → other_bound * unsigned_abs factor < 2 ^ 124 → IsPlace t' o' t o scale factor
place_is t' o' t o scale factor bound other_bound et eo ht ho hb hob hf h g =
    let wt : wrap128 t' ≡ t = ap wrap128 et ∙ whole_back t (omega (arith, ht, hb)) in
    let wo : wrap o' ≡ o = ap wrap eo ∙ back o (omega (arith, ho, hob)) in
    let wf : wrap128 factor ≡ factor = whole_back factor (omega (arith, hf)) in
    record {
      top = subst (λ (x : ℤ). unsigned_abs x < 2 ^ 125) (sym wt) (omega (arith, ht, hb));
      other = subst (λ (x : ℤ). unsigned_abs x < 2 ^ 62) (sym wo) (omega (arith, ho, hob));
      first = subst (λ (x : ℤ). unsigned_abs x * scale < 2 ^ 124) (sym wt) (omega (arith, mul-le-mul_right scale ht, h));
      second = subst (λ (x : ℤ). unsigned_abs x * unsigned_abs (wrap128 factor) < 2 ^ 124) (sym wo) (subst (λ (x : ℤ). unsigned_abs o * unsigned_abs x < 2 ^ 124) (sym wf) (omega (arith, mul-le-mul_right (unsigned_abs factor) ho, g)));
      number = ap (λ x. x *ℤ pos scale -ℤ wrap o' *ℤ wrap128 factor) wt ∙ ap (λ x. t *ℤ pos scale -ℤ x *ℤ wrap128 factor) wo;
    }

pub number_is : (r n : ℤ) → r ≡ n → unsigned_abs r < 2 ^ 125 → wrap128 r ≡ n
number_is r n e h = whole_back r (omega (arith, h)) ∙ e

pub factor_small : (f : ℤ) → unsigned_abs f < 2 ^ 125 → unsigned_abs (wrap128 f) < 2 ^ 125
factor_small f h = subst (λ (x : ℤ). unsigned_abs x < 2 ^ 125) (sym (whole_back f (omega (arith, h)))) h

-- a quotient that the code computes, where the divisor divides the number
pub divided_number : (q r n : ℤ) (d : ℕ) → r ≡ n → unsigned_abs r < 2 ^ 125 → d ∣ unsigned_abs n → q ≡ int_div (wrap128 r) (pos d) → unsigned_abs q ≤ unsigned_abs (wrap128 r) → (wrap128 q *ℤ pos d ≡ n) × (unsigned_abs (wrap128 q) < 2 ^ 125)
divided_number q r n d e h hd eq hq =
    let w : wrap128 r ≡ n = number_is r n e h in
    let size : unsigned_abs n < 2 ^ 125 = subst (λ (x : ℤ). unsigned_abs x < 2 ^ 125) e h in
    let le : unsigned_abs q ≤ unsigned_abs n = subst (λ (x : ℤ). unsigned_abs q ≤ unsigned_abs x) w hq in
    let wq : wrap128 q ≡ q = whole_back q (omega (arith, le, size)) in (
      ap (λ x. x *ℤ pos d) (wq ∙ (eq ∙ ap (λ x. int_div x (pos d)) w)) ∙ int_div-mul n d hd,
      subst (λ (x : ℤ). unsigned_abs x < 2 ^ 125) (sym wq) (omega (arith, le, size)),
    )

-- ---- the factor of a row
pub factor_wide : (top t f : ℤ) (g bound : ℕ) → top ≡ t → unsigned_abs t ≤ bound → bound < 2 ^ 125 → g ∣ unsigned_abs (wrap128 top) → f ≡ int_div (wrap128 top) (pos g) → unsigned_abs f ≤ unsigned_abs (wrap128 top) → (f *ℤ pos g ≡ t) × (unsigned_abs f ≤ bound)
factor_wide top t f g bound et ht hb gd ef hf =
    let w : wrap128 top ≡ t = ap wrap128 et ∙ whole_back t (omega (arith, ht, hb)) in (
      ap (λ k. k *ℤ pos g) (ef ∙ ap (λ k. int_div k (pos g)) w) ∙ int_div-mul t g (subst (λ (k : ℕ). g ∣ k) (ap unsigned_abs w) gd),
      omega (arith, hf, ap unsigned_abs w, ht),
    )

-- ---- a quotient that was guessed and multiplied back
pub divides_by : (t q : ℤ) (d : ℕ) → q *ℤ pos d ≡ t → d ∣ unsigned_abs t
divides_by t q d e = subst (λ (n : ℕ). d ∣ n) (sym (unsigned_abs-mul q (pos d)) ∙ ap unsigned_abs e) (dvd-mul_left d (unsigned_abs q))

pub quotient_by : (t q : ℤ) (d : ℕ) → 0 < d → q *ℤ pos d ≡ t → q ≡ int_div t (pos d)
quotient_by t q d p e = mul_cancel q (int_div t (pos d)) d p (e ∙ sym (int_div-mul t d (divides_by t q d e)))
