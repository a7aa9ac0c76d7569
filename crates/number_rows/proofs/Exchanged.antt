-- What the methods of a row make of the numbers that it shows.
use Rattle.std.specs.Prelude.{◌≡◌, ◌≢◌, ℕ, zero, suc, ◌*◌, ◌/◌, ◌<◌, ◌≤◌, ◌^◌, ℤ, pos, negsuc, ◌*ℤ◌, ◌-ℤ◌, neg_ℤ, ◌<ℤ◌, int_div, Bool, true, false, if◌then◌else◌, List, [], ◌∷◌, ◌++◌, length, unsigned_abs}
use Rattle.std.specs.Bool.{OnTrue, OnFalse}
use Rattle.std.specs.Int.{◌∣◌, w64}
use Rattle.std.specs.Int.Signed.{lt_z}
use Rattle.std.proofs.Common.{refl, sym, ap, subst, ◌∙◌, arith, to_z}
use Rattle.std.proofs.lemmas.Int.{ints, to_z_pos}
use Rattle.std.proofs.Math.Nat.{div-mul_cancel, div-le_self, mul-le-mul_right}
use borrow.Author.Differences.{below_in, lt-true}
use Rattle.fractions.specs.Fraction.{Fraction, frac, zero_fraction, int_div-mul, lower_pos, ◌/ʳ◌, ◌-ʳ◌, ◌*ʳ◌}
use Rattle.fractions.specs.Fracs.{frac_scale, zero-frac, pos_product}
use Rattle.fractions.specs.Ring.{int, nat, neg, ◌⊗◌, same_value}
use Rattle.fractions.specs.Limits.{IsNarrow}
use Rattle.linear_table.specs.Plans.{number_at}
use Rattle.linear_table.specs.Wide.{LessFits}
use Rattle.number_rows.specs.Changed.{Numbers, IsDividedRow, IsReducedRow}
use Rattle.number_rows.specs.Row.{kept, IsKept, IsKeptLong}
use Rattle.number_rows.specs.Tops.{top_at, AreWithin, IsDividedBy, IsTurned, IsCombined, IsCombinedOver, AreOver, AreSame}
use Rattle.number_rows.proofs.Kept.{short_at, length_shown, same_numbers, kept_at, kept_length, shown_over}
use Rattle.number_rows.proofs.Lists.{wrap, back}
use Rattle.number_rows.proofs.Short.{less_fits, less_fits_out, less_is, narrow_over, quotient_is}

-- ---- taking out what all have in common
same_over : (t u : ℤ) (b c : ℕ) → 0 < b → 0 < c → c ∣ b → u *ℤ pos c ≡ t → frac u (b / c) ≡ frac t b
same_over t u b c pb pc h e =
    sym (frac_scale u (b / c) c (lower_pos b c pb h) pc) ∙ (ap (λ k. frac k (b / c * c)) e ∙ ap (frac t) (div-mul_cancel c h))

pub cancelled : (s : Bool) (b c : ℕ) (ts us : List ℤ) (ns : List Fraction) → s ≡ true → 0 < b → 0 < c → c ∣ b → IsDividedBy ts c us → kept s (b / c) us ns ≡ kept s b ts ns
cancelled s b c ts us ns m pb pc h d =
    ap (λ k. kept k (b / c) us ns) m
    ∙ (same_numbers (kept true (b / c) us ns) (kept true b ts ns) (kept_length (b / c) us ns ∙ (d.length_is ∙ sym (kept_length b ts ns)))
    (λ k q. let lt : k < length ts = subst (λ (n : ℕ). k < n) (kept_length b ts ns) q in
    kept_at (b / c) us ns k (omega (arith, lt, d.length_is)) ∙ (same_over (top_at ts k) (top_at us k) b c pb pc h (d.numbers k lt) ∙ sym (kept_at b ts ns k lt)))
    ∙ sym (ap (λ k. kept k b ts ns) m))

-- ---- dividing by the number at a place
turned_times : (p t : ℤ) (z : Bool) → z ≡ lt_z p (pos 0) → (if z then neg_ℤ t else t) *ℤ p ≡ t *ℤ pos (unsigned_abs p)
turned_times (pos n) t false e = refl
turned_times (pos n) t true e = absurd (let h : pos n <ℤ pos 0 = below_in (pos n) (pos 0) (lt-true (pos n) (pos 0) (sym e)) in omega (arith, ints, h))
turned_times (negsuc n) t true e = same_value (neg (int t) ⊗ neg (nat (suc n))) (int t ⊗ nat (suc n)) (omega arith)
turned_times (negsuc n) t false e = absurd (let k : false ≡ true = e in cc)

pub turned_size : (t : ℤ) (z : Bool) → unsigned_abs (if z then neg_ℤ t else t) ≡ unsigned_abs t
turned_size t true = omega (arith, ints)
turned_size t false = refl

pub top_not_zero : (p : ℤ) (b : ℕ) (x : Fraction) → 0 < b → x ≡ frac p b → x ≢ zero_fraction → p ≢ pos 0
top_not_zero p b x pb e h k = h (e ∙ (ap (λ t. frac t b) k ∙ zero-frac b pb))

pub size_some : (p : ℤ) → p ≢ pos 0 → 0 < unsigned_abs p
size_some (pos zero) h = absurd (h refl)
size_some (pos (suc n)) h = omega arith
size_some (negsuc n) h = omega arith

pub divided_row : {room : ℕ} (s : Bool) (b m bound : ℕ) (ts us : List ℤ) (ns : List Fraction) (xs ys : Numbers) (k : ℕ) (z : Bool) → record { items = kept s b ts ns } ≡ xs → s ≡ true → IsKept s b bound ts ns room → k < length ts → number_at xs.items k ≢ zero_fraction → z ≡ lt_z (top_at ts k) (pos 0) → m ≡ unsigned_abs (top_at ts k) → IsTurned ts z us → ys ≡ record { items = kept s m us ns } →
    IsDividedRow xs.items (number_at xs.items k) ys.items
divided_row s b m bound ts us ns xs ys k z ex ms h lt apart ez em t ey =
    let p : ℤ = top_at ts k in
    let at : (j : ℕ) → j < length ts → number_at xs.items j ≡ frac (top_at ts j) b = λ j q. short_at s b ts ns xs j ex ms q in
    let some : p ≢ pos 0 = top_not_zero p b (number_at xs.items k) h.positive (at k lt) apart in
    let pm : 0 < m = subst (λ (n : ℕ). 0 < n) (sym em) (size_some p some) in
    let hm : m ≤ bound = subst (λ (n : ℕ). n ≤ bound) (sym em) (h.within k lt) in
    let new : (j : ℕ) → j < length ts → number_at ys.items j ≡ frac (top_at us j) m = λ j q. short_at s m us ns ys j (sym ey) ms (omega (arith, q, t.length_is)) in
    let len : length xs.items ≡ length ts = length_shown s b ts ns xs ex h.same_length in
    let nonzero : frac p b ≢ zero_fraction = λ e. apart (at k lt ∙ e) in
    let is : (j : ℕ) → j < length ts → number_at xs.items j /ʳ number_at xs.items k ≡ frac (top_at us j) m =
    λ j q. ap (λ x. x /ʳ number_at xs.items k) (at j q)
    ∙ (ap (λ x. frac (top_at ts j) b /ʳ x) (at k lt)
    ∙ quotient_is (top_at ts j) p (top_at us j) b m h.positive pm (ap (λ x. x *ℤ p) (t.numbers j q) ∙ (turned_times p (top_at ts j) z ez ∙ ap (λ n. top_at ts j *ℤ pos n) (sym em))) some nonzero) in
    let size : (j : ℕ) → j < length ts → unsigned_abs (top_at us j) ≤ bound = λ j q. subst (λ (n : ℕ). n ≤ bound) (sym (ap unsigned_abs (t.numbers j q) ∙ turned_size (top_at ts j) z)) (h.within j q) in
    record {
      length_is = length_shown s m us ns ys (sym ey) (λ e. t.length_is ∙ h.same_length e) ∙ (t.length_is ∙ sym len);
      narrow = λ j q. let lj : j < length ts = omega (arith, q, len) in subst IsNarrow (sym (is j lj)) (narrow_over (top_at us j) m pm (omega (arith, hm, h.bound_small)) (omega (arith, size j lj, h.bound_small)));
      numbers = λ j q. let lj : j < length ts = omega (arith, q, len) in new j lj ∙ sym (is j lj);
    }

-- ---- taking the pivot's row from a row
-- the new whole numbers stand over a denominator for what is computed over the old one
pub record AreReducedTops (b a m : ℕ) (f : ℤ) (ts vs us : List ℤ) : Type 0 where
  pub length_is : length us ≡ length ts
  pub numbers : (j : ℕ) → j < length ts → frac (top_at us j) m ≡ frac (top_at ts j *ℤ pos a -ℤ top_at vs j *ℤ f) (b * a)

pub combined_tops : (b a : ℕ) (f : ℤ) (ts vs us : List ℤ) → IsCombined ts (pos a) vs f us → AreReducedTops b a (b * a) f ts vs us
combined_tops b a f ts vs us t = record { length_is = t.length_is; numbers = λ j q. ap (λ x. frac x (b * a)) (t.numbers j q) }

over_same : (t u : ℤ) (b c a : ℕ) → 0 < b → 0 < c → c ∣ b → 0 < a → u *ℤ pos c ≡ t → frac u (b / c * a) ≡ frac t (b * a)
over_same t u b c a pb pc h pa e =
    let arranged : b / c * a * c ≡ b * a = let q : b / c * a * c ≡ b / c * c * a = omega arith in q ∙ ap (λ k. k * a) (div-mul_cancel c h) in
    sym (frac_scale u (b / c * a) c (pos_product (b / c) a (lower_pos b c pb h) pa) pc) ∙ (ap (λ k. frac k (b / c * a * c)) e ∙ ap (frac t) arranged)

pub divided_tops : (b c a : ℕ) (f : ℤ) (ts vs us : List ℤ) → 0 < b → 0 < c → c ∣ b → 0 < a → IsCombinedOver ts (pos a) vs f c us → AreReducedTops b a (b / c * a) f ts vs us
divided_tops b c a f ts vs us pb pc h pa t =
    record { length_is = t.length_is; numbers = λ j q. over_same (top_at ts j *ℤ pos a -ℤ top_at vs j *ℤ f) (top_at us j) b c a pb pc h pa (t.numbers j q) }

pub reduced_row : {room room' : ℕ} (s s' : Bool) (b b' bound bound' a g m : ℕ) (f : ℤ) (ts us vs : List ℤ) (ns ms : List Fraction) (xs ys ps : Numbers) (k : ℕ) → record { items = kept s b ts ns } ≡ xs → s ≡ true → IsKept s b bound ts ns room → record { items = kept s' b' vs ms } ≡ ps → s' ≡ true → IsKept s' b' bound' vs ms room' → length xs.items ≡ length ps.items → k < length ts → 0 < g → g ∣ b' → a ≡ b' / g → f *ℤ pos g ≡ top_at ts k → AreReducedTops b a m f ts vs us → ys ≡ record { items = kept s m us ns } →
    IsReducedRow xs.items (number_at xs.items k) ps.items ys.items
reduced_row s s' b b' bound bound' a g m f ts us vs ns ms xs ys ps k ex es h ep es' h' width lt pg gb ea ef t ey =
    let at : (j : ℕ) → j < length ts → number_at xs.items j ≡ frac (top_at ts j) b = λ j q. short_at s b ts ns xs j ex es q in
    let len : length xs.items ≡ length ts = length_shown s b ts ns xs ex h.same_length in
    let len' : length ps.items ≡ length vs = length_shown s' b' vs ms ps ep h'.same_length in
    let both : length ts ≡ length vs = sym len ∙ (width ∙ len') in
    let other : (j : ℕ) → j < length ts → number_at ps.items j ≡ frac (top_at vs j) b' = λ j q. short_at s' b' vs ms ps j ep es' (omega (arith, q, both)) in
    let new : (j : ℕ) → j < length ts → number_at ys.items j ≡ frac (top_at us j) m = λ j q. short_at s m us ns ys j (sym ey) es (omega (arith, q, t.length_is)) in
    let pa : 0 < a = subst (λ (n : ℕ). 0 < n) (sym ea) (lower_pos b' g h'.positive gb) in
    let ag : a * g ≡ b' = ap (λ n. n * g) ea ∙ div-mul_cancel g gb in
    let fits : (j : ℕ) → j < length ts → LessFits (number_at xs.items j) (number_at xs.items k) (number_at ps.items j) =
    λ j q. subst (λ (x : Fraction). LessFits x (number_at xs.items k) (number_at ps.items j)) (sym (at j q))
    (subst (λ (x : Fraction). LessFits (frac (top_at ts j) b) x (number_at ps.items j)) (sym (at k lt))
    (subst (λ (x : Fraction). LessFits (frac (top_at ts j) b) (frac (top_at ts k) b) x) (sym (other j q))
    (less_fits (top_at ts j) (top_at ts k) (top_at vs j) b b' h.positive h'.positive h.bottom_small h'.bottom_small (omega (arith, h.within j q, h.bound_small)) (omega (arith, h.within k lt, h.bound_small)) (omega (arith, h'.within j (omega (arith, q, both)), h'.bound_small))))) in
    let is : (j : ℕ) → j < length ts → frac (top_at us j) m ≡ number_at xs.items j -ʳ number_at xs.items k *ʳ number_at ps.items j =
    λ j q. t.numbers j q
    ∙ (less_is (top_at ts j) (top_at ts k) (top_at vs j) f b b' a g h.positive pa pg ef ag
    ∙ sym (ap (λ x. x -ʳ number_at xs.items k *ʳ number_at ps.items j) (at j q)
    ∙ (ap (λ x. frac (top_at ts j) b -ʳ x *ʳ number_at ps.items j) (at k lt) ∙ ap (λ x. frac (top_at ts j) b -ʳ frac (top_at ts k) b *ʳ x) (other j q)))) in
    record {
      length_is = length_shown s m us ns ys (sym ey) (λ e. t.length_is ∙ h.same_length e) ∙ (t.length_is ∙ sym len);
      narrow = λ j q. fits j (omega (arith, q, len));
      numbers = λ j q. let lj : j < length ts = omega (arith, q, len) in new j lj ∙ is j lj;
    }

-- ---- from one form to the other
numbers_of : List Fraction → Numbers
numbers_of xs = record { items = xs }

pub shortened : (s : Bool) (b b' : ℕ) (ts us : List ℤ) (ns : List Fraction) (xs : Numbers) → record { items = kept s b ts ns } ≡ xs → s ≡ false → AreOver us b' ns → record { items = kept true b' us ns } ≡ xs
unfolding numbers_of
shortened s b b' ts us ns xs ex es h =
    ap numbers_of (shown_over b' us ns h) ∙ (ap (λ k. numbers_of (kept k b ts ns)) (sym es) ∙ ex)

-- what the code computes of the number at the place that enters
pub factor_is : (top t f : ℤ) (u g : ℕ) → top ≡ t → unsigned_abs t < 2 ^ 62 → u ≡ unsigned_abs (wrap top) → g ∣ u → f ≡ int_div (wrap top) (pos g) → unsigned_abs f ≤ unsigned_abs (wrap top) → (f *ℤ pos g ≡ t) × (unsigned_abs f < 2 ^ 62)
factor_is top t f u g et ht eu gu ef hf =
    let w : wrap top ≡ t = ap wrap et ∙ back t (omega (arith, ht)) in (
      ap (λ k. k *ℤ pos g) (ef ∙ ap (λ k. int_div k (pos g)) w) ∙ int_div-mul t g (subst (λ (k : ℕ). g ∣ k) (eu ∙ ap unsigned_abs w) gu),
      omega (arith, hf, ap unsigned_abs w, ht),
    )

pub scale_back : (m : ℕ) → m < 2 ^ 62 → to_z w64 m ≡ pos m
scale_back m h = to_z_pos w64 m (omega (arith, h))

pub combined_plain : (cur ts vs ws us : List ℤ) (a f : ℤ) (m : ℕ) → cur ≡ ts → ws ≡ vs → a ≡ pos m → wrap f ≡ f → IsCombined cur a ws (wrap f) us → IsCombined ts (pos m) vs f us
combined_plain cur ts vs ws us a f m ec ew ea ef h =
    subst (λ (k : ℤ). IsCombined ts (pos m) vs k us) ef
    (subst (λ (k : ℤ). IsCombined ts k vs (wrap f) us) ea
    (subst (λ (l : List ℤ). IsCombined ts a l (wrap f) us) ew (subst (λ (l : List ℤ). IsCombined l a ws (wrap f) us) ec h)))

pub zero_append : (xs : List ℤ) → ((j : ℕ) → top_at xs j ≡ pos 0) → (j : ℕ) → top_at (xs ++ pos 0 ∷ []) j ≡ pos 0
zero_append [] h zero = refl
zero_append [] h (suc j) = refl
zero_append (x ∷ xs) h zero = h 0
zero_append (x ∷ xs) h (suc j) = zero_append xs (λ k. h (suc k)) j

pub combined_over_plain : (cur ts vs ws us : List ℤ) (a f : ℤ) (m d : ℕ) → cur ≡ ts → ws ≡ vs → a ≡ pos m → wrap f ≡ f → IsCombinedOver cur a ws (wrap f) d us → IsCombinedOver ts (pos m) vs f d us
combined_over_plain cur ts vs ws us a f m d ec ew ea ef h =
    subst (λ (k : ℤ). IsCombinedOver ts (pos m) vs k d us) ef
    (subst (λ (k : ℤ). IsCombinedOver ts k vs (wrap f) d us) ea
    (subst (λ (l : List ℤ). IsCombinedOver ts a l (wrap f) d us) ew (subst (λ (l : List ℤ). IsCombinedOver l a ws (wrap f) d us) ec h)))

-- ---- numbers past the limit of short rows
-- the list that the code wrote shows the numbers over the denominator
pub written : (s : Bool) (b : ℕ) (ts us vs : List ℤ) (ns : List Fraction) (ys : Numbers) → s ≡ true → AreSame ts us → vs ≡ us → ys ≡ record { items = kept s b vs ns } → AreOver ts b ys.items
written s b ts us vs ns ys es h ev ey =
    let len : length vs ≡ length ts = ap (λ (l : List ℤ). length l) ev ∙ h.length_is in
    let shown : ys.items ≡ kept true b vs ns = ap (λ (y : Numbers). y.items) ey ∙ ap (λ k. kept k b vs ns) es in
    record {
      length_is = ap (λ (l : List Fraction). length l) shown ∙ (kept_length b vs ns ∙ len);
      numbers = λ k q.
          ap (λ (l : List Fraction). number_at l k) shown
          ∙ (kept_at b vs ns k (omega (arith, q, len)) ∙ ap (λ t. frac t b) (ap (λ (l : List ℤ). top_at l k) ev ∙ h.numbers k q));
    }

pub same_within : (ts us : List ℤ) (bound : ℕ) → AreSame ts us → AreWithin ts bound → AreWithin us bound
same_within ts us bound s h = λ k q. subst (λ (t : ℤ). unsigned_abs t ≤ bound) (sym (s.numbers k (omega (arith, q, s.length_is)))) (h k (omega (arith, q, s.length_is)))

-- the numbers that a row shows over a denominator
pub over_shown : (s : Bool) (b : ℕ) (ts us : List ℤ) (ns : List Fraction) (xs : Numbers) → record { items = kept s b ts ns } ≡ xs → s ≡ true → AreSame ts us → AreOver us b xs.items
over_shown s b ts us ns xs ex es h =
    let shown : xs.items ≡ kept true b ts ns = sym (ap (λ (y : Numbers). y.items) ex) ∙ ap (λ k. kept k b ts ns) es in
    record {
      length_is = ap (λ (l : List Fraction). length l) shown ∙ (kept_length b ts ns ∙ sym h.length_is);
      numbers = λ k q. short_at s b ts ns xs k ex es (omega (arith, q, h.length_is)) ∙ ap (λ t. frac t b) (sym (h.numbers k (omega (arith, q, h.length_is))));
    }

pub reduced_wide : (s : Bool) (b b' bound bound' a g m : ℕ) (f : ℤ) (ts us vs : List ℤ) (ns : List Fraction) (xs ys : Numbers) (k : ℕ) → record { items = kept s b ts ns } ≡ xs → s ≡ true → IsKeptLong b bound ts ns → 0 < b' → b' < 2 ^ 62 → AreWithin vs bound' → length xs.items ≡ length vs → k < length ts → bound * a < 2 ^ 124 → bound' * unsigned_abs f < 2 ^ 124 → 0 < g → g ∣ b' → a ≡ b' / g → f *ℤ pos g ≡ top_at ts k → AreReducedTops b a m f ts vs us → ys ≡ record { items = kept s m us ns } →
    IsReducedRow xs.items (number_at xs.items k) (kept true b' vs []) ys.items
reduced_wide s b b' bound bound' a g m f ts us vs ns xs ys k ex es h pb' hb' hv width lt first second pg gb ea ef t ey =
    let at : (j : ℕ) → j < length ts → number_at xs.items j ≡ frac (top_at ts j) b = λ j q. short_at s b ts ns xs j ex es q in
    let len : length xs.items ≡ length ts = length_shown s b ts ns xs ex (λ e. h.same_length) in
    let both : length ts ≡ length vs = sym len ∙ width in
    let other : (j : ℕ) → j < length ts → number_at (kept true b' vs []) j ≡ frac (top_at vs j) b' = λ j q. kept_at b' vs [] j (omega (arith, q, both)) in
    let new : (j : ℕ) → j < length ts → number_at ys.items j ≡ frac (top_at us j) m = λ j q. short_at s m us ns ys j (sym ey) es (omega (arith, q, t.length_is)) in
    let pa : 0 < a = subst (λ (n : ℕ). 0 < n) (sym ea) (lower_pos b' g pb' gb) in
    let ag : a * g ≡ b' = ap (λ n. n * g) ea ∙ div-mul_cancel g gb in
    let small : a < 2 ^ 62 = omega (arith, ea, div-le_self b' g, hb') in
    let fits : (j : ℕ) → j < length ts → LessFits (number_at xs.items j) (number_at xs.items k) (number_at (kept true b' vs []) j) =
    λ j q. subst (λ (x : Fraction). LessFits x (number_at xs.items k) (number_at (kept true b' vs []) j)) (sym (at j q))
    (subst (λ (x : Fraction). LessFits (frac (top_at ts j) b) x (number_at (kept true b' vs []) j)) (sym (at k lt))
    (subst (λ (x : Fraction). LessFits (frac (top_at ts j) b) (frac (top_at ts k) b) x) (sym (other j q))
    (less_fits_out (top_at ts j) (top_at ts k) (top_at vs j) f b b' a g h.positive pa pg h.bottom_small small ef ag
    (times_most (unsigned_abs (top_at ts j)) bound a (h.within j q) first)
    (times_most' (unsigned_abs (top_at vs j)) bound' (unsigned_abs f) (hv j (omega (arith, q, both))) second)))) in
    let is : (j : ℕ) → j < length ts → frac (top_at us j) m ≡ number_at xs.items j -ʳ number_at xs.items k *ʳ number_at (kept true b' vs []) j =
    λ j q. t.numbers j q
    ∙ (less_is (top_at ts j) (top_at ts k) (top_at vs j) f b b' a g h.positive pa pg ef ag
    ∙ sym (ap (λ x. x -ʳ number_at xs.items k *ʳ number_at (kept true b' vs []) j) (at j q)
    ∙ (ap (λ x. frac (top_at ts j) b -ʳ x *ʳ number_at (kept true b' vs []) j) (at k lt) ∙ ap (λ x. frac (top_at ts j) b -ʳ frac (top_at ts k) b *ʳ x) (other j q)))) in
    record {
      length_is = length_shown s m us ns ys (sym ey) (λ e. t.length_is ∙ h.same_length) ∙ (t.length_is ∙ sym len);
      narrow = λ j q. fits j (omega (arith, q, len));
      numbers = λ j q. let lj : j < length ts = omega (arith, q, len) in new j lj ∙ is j lj;
    }
  where
    times_most : (n m s : ℕ) → n ≤ m → m * s < 2 ^ 124 → n * s < 2 ^ 124
    times_most n m s h q = omega (arith, mul-le-mul_right s h, q)

    times_most' : (n m s : ℕ) → n ≤ m → m * s < 2 ^ 124 → s * n < 2 ^ 124
    times_most' n m s h q = omega (arith, mul-le-mul_right s h, q)

-- what is said of other names of the same lists
pub reduced_shown : (r : Bool) (xs xs' ps ps' ys : List Fraction) (k : ℕ) → xs' ≡ xs → ps' ≡ ps → OnTrue r (IsReducedRow xs' (number_at xs' k) ps' ys) → OnTrue r (IsReducedRow xs (number_at xs k) ps ys)
reduced_shown r xs xs' ps ps' ys k ex ep h =
    subst (λ (l : List Fraction). OnTrue r (IsReducedRow l (number_at l k) ps ys)) ex (subst (λ (l : List Fraction). OnTrue r (IsReducedRow xs' (number_at xs' k) l ys)) ep h)

pub not_reduced : (r : Bool) (a b xs : Numbers) → b.items ≡ xs.items → OnFalse r (a ≡ b) → OnFalse r (record { items = a.items } ≡ xs)
unfolding numbers_of
not_reduced true a b xs e h = tt
not_reduced false a b xs e h = ap numbers_of (ap (λ (x : Numbers). x.items) h ∙ e)
