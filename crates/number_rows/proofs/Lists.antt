-- Lists of whole numbers, changed place by place.
use Rattle.std.specs.Prelude.{◌≡◌, ◌⊎◌, ℕ, ◌+◌, ◌*◌, ◌/◌, ◌<◌, ◌≤◌, ◌^◌, ℤ, pos, ◌*ℤ◌, ◌-ℤ◌, neg_ℤ, int_div, unsigned_abs, List, length, replicate}
use Rattle.std.specs.Int.{◌∣◌, w64}
use Rattle.std.proofs.Common.{refl, sym, ap, subst, inl, inr, ◌∙◌, arith, set, below_more, to_z, of_z}
use Rattle.std.proofs.lemmas.Bool.{cases_lt}
use Rattle.std.proofs.lemmas.Int.{ints, unsigned_abs-mul, to_z-of_z, fits_signed_from_abs}
use Rattle.std.proofs.lemmas.List.{get_or-set_same, get_or-set_other, get_or-replicate}
use Rattle.std.proofs.Math.Nat.{mul-le-mul_right, dvd-mul_left, dvd-mul_right, one-dvd, dvd-zero, div-mul_cancel, mul_assoc, mul_comm}
use Rattle.fractions.specs.Fraction.{Fraction, frac, int_div-mul, lower_pos, mul_cancel}
use Rattle.fractions.specs.Fracs.{pos_product}
use Rattle.fractions.specs.Ring.{int, nat, ◌⊗◌, ◌⊖◌, same_value}
use Rattle.fractions.specs.Gcd.{gcd, gcd_is, gcd_pos, gcd-zero}
use Rattle.fractions.proofs.Printed.{gcd-one}
use Rattle.linear_table.specs.Plans.{number_at}
use Rattle.number_rows.specs.Tops.{top_at, AreWithin, AreWithinBelow, IsCombined, IsScaled}

-- ---- numbers of 64 bits
abbrev pub wrap : ℤ → ℤ
wrap k = to_z w64 (of_z w64 k)

pub back : (k : ℤ) → unsigned_abs k < 2 ^ 63 → wrap k ≡ k
back k h = to_z-of_z w64 k (fits_signed_from_abs w64 k h)

abs_product : (t s : ℤ) (n : ℕ) → unsigned_abs t * unsigned_abs s + n < 2 ^ 62 → unsigned_abs (t *ℤ s) < 2 ^ 62
abs_product t s n h = omega (arith, unsigned_abs-mul t s)

abs_minus : (a b : ℤ) → unsigned_abs (a -ℤ b) ≤ unsigned_abs a + unsigned_abs b
abs_minus a b = omega (arith, ints)

pub combined_small : (t s o f : ℤ) → unsigned_abs t * unsigned_abs s + unsigned_abs o * unsigned_abs f < 2 ^ 62 → unsigned_abs (t *ℤ s -ℤ o *ℤ f) < 2 ^ 62
combined_small t s o f h = omega (arith, abs_minus (t *ℤ s) (o *ℤ f), unsigned_abs-mul t s, unsigned_abs-mul o f)

pub product_back : (t s : ℤ) (n : ℕ) → wrap t ≡ t → wrap s ≡ s → unsigned_abs t * unsigned_abs s + n < 2 ^ 62 → wrap (wrap t *ℤ wrap s) ≡ t *ℤ s
product_back t s n et es h = ap (λ a. wrap (a *ℤ wrap s)) et ∙ (ap (λ a. wrap (t *ℤ a)) es ∙ back (t *ℤ s) (omega (arith, abs_product t s n h)))

-- ---- one place more
pub within_none : (tops : List ℤ) (bound : ℕ) → AreWithinBelow tops bound 0
within_none tops bound = record { within = λ j h. absurd (omega arith) }

pub within_more : (tops : List ℤ) (bound k : ℕ) (t : ℤ) (more : ℕ) → k < length tops → bound ≤ more → unsigned_abs t ≤ more → AreWithinBelow tops bound k → AreWithinBelow (set tops k t) more (k + 1)
within_more tops bound k t more lt grows fits h =
    record {
      within = below_more (λ j. unsigned_abs (top_at (set tops k t) j) ≤ more) k
          (λ j q. subst (λ (x : ℤ). unsigned_abs x ≤ more) (sym (get_or-set_other tops k j t (pos 0) (λ e. omega arith))) (omega (arith, h.within j q, grows)))
          (subst (λ (x : ℤ). unsigned_abs x ≤ more) (sym (get_or-set_same tops k t (pos 0) lt)) fits);
    }

pub within_one : (tops : List ℤ) (bound more k : ℕ) → bound ≤ more → unsigned_abs (top_at tops k) ≤ more → AreWithinBelow tops bound k → AreWithinBelow tops more (k + 1)
within_one tops bound more k grows fits h =
    record { within = below_more (λ j. unsigned_abs (top_at tops j) ≤ more) k (λ j q. omega (arith, h.within j q, grows)) fits }

pub record IsDividedBelow (old : List ℤ) (d : ℕ) (tops : List ℤ) (k : ℕ) : Type 0 where
  pub done : (j : ℕ) → j < k → top_at tops j *ℤ pos d ≡ top_at old j
  pub rest : (j : ℕ) → k ≤ j → top_at tops j ≡ top_at old j

pub divided_none : (old : List ℤ) (d : ℕ) → IsDividedBelow old d old 0
divided_none old d = record { done = λ j h. absurd (omega arith); rest = λ j h. refl }

pub divided_more : (old : List ℤ) (d : ℕ) (tops : List ℤ) (k : ℕ) (t : ℤ) → k < length tops → t *ℤ pos d ≡ top_at old k → IsDividedBelow old d tops k → IsDividedBelow old d (set tops k t) (k + 1)
divided_more old d tops k t lt e h =
    record {
      done = below_more (λ j. top_at (set tops k t) j *ℤ pos d ≡ top_at old j) k
          (λ j q. ap (λ x. x *ℤ pos d) (get_or-set_other tops k j t (pos 0) (λ e. omega arith)) ∙ h.done j q)
          (ap (λ x. x *ℤ pos d) (get_or-set_same tops k t (pos 0) lt) ∙ e);
      rest = λ j q. get_or-set_other tops k j t (pos 0) (λ e. omega arith) ∙ h.rest j (omega arith);
    }

pub record IsNegatedBelow (old tops : List ℤ) (k : ℕ) : Type 0 where
  pub done : (j : ℕ) → j < k → top_at tops j ≡ neg_ℤ (top_at old j)
  pub rest : (j : ℕ) → k ≤ j → top_at tops j ≡ top_at old j

pub negated_none : (old : List ℤ) → IsNegatedBelow old old 0
negated_none old = record { done = λ j h. absurd (omega arith); rest = λ j h. refl }

pub negated_more : (old tops : List ℤ) (k : ℕ) (t : ℤ) → k < length tops → t ≡ neg_ℤ (top_at old k) → IsNegatedBelow old tops k → IsNegatedBelow old (set tops k t) (k + 1)
negated_more old tops k t lt e h =
    record {
      done = below_more (λ j. top_at (set tops k t) j ≡ neg_ℤ (top_at old j)) k
          (λ j q. get_or-set_other tops k j t (pos 0) (λ e. omega arith) ∙ h.done j q)
          (get_or-set_same tops k t (pos 0) lt ∙ e);
      rest = λ j q. get_or-set_other tops k j t (pos 0) (λ e. omega arith) ∙ h.rest j (omega arith);
    }

pub record IsCombinedBelow (old : List ℤ) (scale : ℤ) (other : List ℤ) (factor : ℤ) (tops : List ℤ) (k : ℕ) : Type 0 where
  pub done : (j : ℕ) → j < k → top_at tops j ≡ top_at old j *ℤ scale -ℤ top_at other j *ℤ factor
  pub rest : (j : ℕ) → k ≤ j → top_at tops j ≡ top_at old j

pub combined_none : (old : List ℤ) (s : ℤ) (other : List ℤ) (f : ℤ) → IsCombinedBelow old s other f old 0
combined_none old s other f = record { done = λ j h. absurd (omega arith); rest = λ j h. refl }

pub combined_more : (old : List ℤ) (s : ℤ) (other : List ℤ) (f : ℤ) (tops : List ℤ) (k : ℕ) (t : ℤ) → k < length tops → t ≡ top_at old k *ℤ s -ℤ top_at other k *ℤ f → IsCombinedBelow old s other f tops k → IsCombinedBelow old s other f (set tops k t) (k + 1)
combined_more old s other f tops k t lt e h =
    record {
      done = below_more (λ j. top_at (set tops k t) j ≡ top_at old j *ℤ s -ℤ top_at other j *ℤ f) k
          (λ j q. get_or-set_other tops k j t (pos 0) (λ e. omega arith) ∙ h.done j q)
          (get_or-set_same tops k t (pos 0) lt ∙ e);
      rest = λ j q. get_or-set_other tops k j t (pos 0) (λ e. omega arith) ∙ h.rest j (omega arith);
    }

-- where the scale is 1 and the other number is 0, nothing changes
stays : (t f : ℤ) → t *ℤ pos 1 -ℤ pos 0 *ℤ f ≡ t
stays t f = same_value (int t ⊗ nat 1 ⊖ nat 0 ⊗ int f) (int t) (omega arith)

pub combined_end : (old : List ℤ) (s : ℤ) (other : List ℤ) (f : ℤ) (tops : List ℤ) (a b : ℕ) → s ≡ pos 1 → ((k : ℕ) → a ≤ k → k < b → top_at other k ≡ pos 0) → IsCombinedBelow old s other f tops a → (j : ℕ) → j < b → top_at tops j ≡ top_at old j *ℤ s -ℤ top_at other j *ℤ f
combined_end old s other f tops a b es none h j q = here (cases_lt j a)
  where
    same : top_at other j ≡ pos 0 → top_at old j *ℤ s -ℤ top_at other j *ℤ f ≡ top_at old j
    same eo = ap (λ x. top_at old j *ℤ x -ℤ top_at other j *ℤ f) es ∙ (ap (λ x. top_at old j *ℤ pos 1 -ℤ x *ℤ f) eo ∙ stays (top_at old j) f)

    here : (j < a) ⊎ (a ≤ j) → top_at tops j ≡ top_at old j *ℤ s -ℤ top_at other j *ℤ f
    here (inl before) = h.done j before
    here (inr after) = h.rest j after ∙ sym (same (none j after q))

pub combined_gap : (old : List ℤ) (s : ℤ) (other : List ℤ) (f : ℤ) (tops : List ℤ) (a b : ℕ) → s ≡ pos 1 → a ≤ b → ((k : ℕ) → a ≤ k → k < b → top_at other k ≡ pos 0) → IsCombinedBelow old s other f tops a → IsCombinedBelow old s other f tops b
combined_gap old s other f tops a b es le none h =
    record { done = combined_end old s other f tops a b es none h; rest = λ j q. h.rest j (omega (arith, q, le)) }

-- the bounds of two numbers that are combined
pub bounded : (a b m n s f : ℕ) → a ≤ m → b ≤ n → m * s + n * f < 2 ^ 62 → a * s + b * f < 2 ^ 62
bounded a b m n s f p q h = omega (arith, mul-le-mul_right s p, mul-le-mul_right f q)

combined_size : (t s o f : ℤ) (m n : ℕ) → unsigned_abs t ≤ m → unsigned_abs o ≤ n → unsigned_abs (t *ℤ s -ℤ o *ℤ f) ≤ m * unsigned_abs s + n * unsigned_abs f
combined_size t s o f m n p q = omega (arith, abs_minus (t *ℤ s) (o *ℤ f), unsigned_abs-mul t s, unsigned_abs-mul o f, mul-le-mul_right (unsigned_abs s) p, mul-le-mul_right (unsigned_abs f) q)

pub combined_within : (old other new : List ℤ) (s s' f f' : ℤ) (m n r : ℕ) → r ≡ m * unsigned_abs s + n * unsigned_abs f → s' ≡ s → f' ≡ f → AreWithin old m → AreWithin other n → length old ≡ length other → IsCombined old s' other f' new → AreWithin new r
combined_within old other new s s' f f' m n r e es ef ho hn len h = λ k lt.
    let q : k < length old = omega (arith, lt, h.length_is) in
    let is : top_at new k ≡ top_at old k *ℤ s -ℤ top_at other k *ℤ f = h.numbers k q ∙ (ap (λ a. top_at old k *ℤ a -ℤ top_at other k *ℤ f') es ∙ ap (λ a. top_at old k *ℤ s -ℤ top_at other k *ℤ a) ef) in
    subst (λ (x : ℕ). unsigned_abs (top_at new k) ≤ x) (sym e)
    (subst (λ (x : ℤ). unsigned_abs x ≤ m * unsigned_abs s + n * unsigned_abs f) (sym is) (combined_size (top_at old k) s (top_at other k) f m n (ho k q) (hn k (omega (arith, q, len)))))

pub same_combined : (old other new : List ℤ) (s s' f f' : ℤ) → s' ≡ s → f' ≡ f → IsCombined old s' other f' new → IsCombined old s other f new
same_combined old other new s s' f f' es ef h = subst (λ (a : ℤ). IsCombined old a other f new) es (subst (λ (a : ℤ). IsCombined old s' other a new) ef h)

pub times_one : (t : ℤ) → t *ℤ pos 1 ≡ t
times_one t = omega (arith, ints)

-- scaled first, and combined by a scale of 1 then
pub scaled_then : (old mid other new : List ℤ) (s f : ℤ) → IsScaled old s mid → IsCombined mid (pos 1) other f new → IsCombined old s other f new
scaled_then old mid other new s f scaled combined = record {
  length_is = combined.length_is ∙ scaled.length_is;
  numbers = λ k lt.
      combined.numbers k (subst (λ (n : ℕ). k < n) (sym scaled.length_is) lt)
      ∙ (ap (λ x. x *ℤ pos 1 -ℤ top_at other k *ℤ f) (scaled.numbers k lt) ∙ ap (λ x. x -ℤ top_at other k *ℤ f) (times_one (top_at old k *ℤ s)));
}

pub record AreOverBelow (tops : List ℤ) (bottom : ℕ) (row : List Fraction) (k : ℕ) : Type 0 where
  pub done : (j : ℕ) → j < k → number_at row j ≡ frac (top_at tops j) bottom

pub record AreOverTo (tops : List ℤ) (bottom : ℕ) (row : List Fraction) (k : ℕ) : Type 0 where
  pub same : (j : ℕ) → j < k → number_at row j ≡ frac (top_at tops j) bottom

-- ---- a common denominator
-- b * (d / g), where g divides b and d
pub common_is : (b d g : ℕ) → 0 < b → 0 < d → g ∣ b → g ∣ d → (0 < b * (d / g)) × (b ∣ b * (d / g)) × (d ∣ b * (d / g))
common_is b d g pb pd gb gd =
    let q : b * (d / g) ≡ b / g * d = ap (λ k. k * (d / g)) (sym (div-mul_cancel g gb)) ∙ (mul_assoc (b / g) g (d / g) ∙ ap (λ k. b / g * k) (mul_comm g (d / g) ∙ div-mul_cancel g gd)) in (
      pos_product b (d / g) pb (lower_pos d g pd gd),
      dvd-mul_right b (d / g),
      subst (λ (k : ℕ). d ∣ k) (sym q) (dvd-mul_left d (b / g)),
    )

pub result_is : (a b first second : ℕ) → gcd a b ≡ gcd first second → b ≡ 0 → a ≡ gcd first second
result_is a b first second h e = sym (gcd-zero a) ∙ (ap (gcd a) (sym e) ∙ h)

pub one_is : (a b first second : ℕ) → gcd a b ≡ gcd first second → b ≡ 1 → 1 ≡ gcd first second
one_is a b first second h e = sym (gcd-one a) ∙ (ap (gcd a) (sym e) ∙ h)

pub record IsCommonDivisor (r first second : ℕ) : Type 0 where
  pub exact : r ≡ gcd first second
  pub positive : 0 < second → 0 < r
  pub first_divided : r ∣ first
  pub second_divided : r ∣ second

pub divisor_told : (r first second : ℕ) → r ≡ gcd first second → IsCommonDivisor r first second
divisor_told r first second e =
    record {
      exact = e;
      positive = λ p. subst (λ (k : ℕ). 0 < k) (sym e) (gcd_pos first second p);
      first_divided = subst (λ (k : ℕ). k ∣ first) (sym e) (gcd_is first second).0;
      second_divided = subst (λ (k : ℕ). k ∣ second) (sym e) (gcd_is first second).1;
    }

-- ---- what the calls say of a place
pub combined_at : (cur other : List ℤ) (scale factor result t o : ℤ) (k : ℕ) → top_at cur k ≡ t → top_at other k ≡ o → unsigned_abs t < 2 ^ 62 → unsigned_abs o < 2 ^ 62 → result ≡ wrap (top_at cur k) *ℤ scale -ℤ wrap (top_at other k) *ℤ factor → unsigned_abs result < 2 ^ 62 → wrap result ≡ t *ℤ scale -ℤ o *ℤ factor
combined_at cur other scale factor result t o k et eo ht ho e small =
    let t' : wrap (top_at cur k) ≡ t = ap wrap et ∙ back t (omega (arith, ht)) in
    let o' : wrap (top_at other k) ≡ o = ap wrap eo ∙ back o (omega (arith, ho)) in
    back result (omega (arith, small)) ∙ (e ∙ (ap (λ a. a *ℤ scale -ℤ wrap (top_at other k) *ℤ factor) t' ∙ ap (λ a. t *ℤ scale -ℤ a *ℤ factor) o'))

pub fits_at : (t t' s s' o o' f f' : ℤ) (m n : ℕ) → t' ≡ t → s' ≡ s → o' ≡ o → f' ≡ f → unsigned_abs t ≤ m → unsigned_abs o ≤ n → m * unsigned_abs s + n * unsigned_abs f < 2 ^ 62 → unsigned_abs t' * unsigned_abs s' + unsigned_abs o' * unsigned_abs f' < 2 ^ 62
fits_at t t' s s' o o' f f' m n et es eo ef p q h = rw (et, es, eo, ef) (bounded (unsigned_abs t) (unsigned_abs o) m n (unsigned_abs s) (unsigned_abs f) p q h)

pub same_fits : (t t' s s' o o' f f' : ℤ) → t' ≡ t → s' ≡ s → o' ≡ o → f' ≡ f → unsigned_abs t * unsigned_abs s + unsigned_abs o * unsigned_abs f < 2 ^ 62 → unsigned_abs t' * unsigned_abs s' + unsigned_abs o' * unsigned_abs f' < 2 ^ 62
same_fits t t' s s' o o' f f' et es eo ef h = rw (et, es, eo, ef) h

pub size_below : (u m : ℕ) (r : ℤ) → u ≡ unsigned_abs r → u ≤ m → unsigned_abs r ≤ m
size_below u m r e h = omega (arith, e, h)

pub divided_at : (cur : List ℤ) (d : ℕ) (result t : ℤ) (k : ℕ) → top_at cur k ≡ t → unsigned_abs t < 2 ^ 62 → d ∣ unsigned_abs t → result ≡ int_div (wrap (top_at cur k)) (pos d) → unsigned_abs result ≤ unsigned_abs (wrap (top_at cur k)) → (wrap result *ℤ pos d ≡ t) × (unsigned_abs (wrap result) < 2 ^ 62)
divided_at cur d result t k et ht hd e small =
    let t' : wrap (top_at cur k) ≡ t = ap wrap et ∙ back t (omega (arith, ht)) in
    let le : unsigned_abs result ≤ unsigned_abs t = subst (λ (x : ℤ). unsigned_abs result ≤ unsigned_abs x) t' small in
    let r' : wrap result ≡ result = back result (omega (arith, le, ht)) in (
      ap (λ x. x *ℤ pos d) (r' ∙ (e ∙ ap (λ x. int_div x (pos d)) t')) ∙ int_div-mul t d hd,
      subst (λ (x : ℤ). unsigned_abs x < 2 ^ 62) (sym r') (omega (arith, le, ht)),
    )

-- what is left of a number beside a divisor divides it too
pub part_divides : (b g : ℕ) → g ∣ b → b / g ∣ b
part_divides b g h = subst (λ (n : ℕ). b / g ∣ n) (div-mul_cancel g h) (dvd-mul_right (b / g) g)

-- a number divided by 1 stays
pub by_one : (t : ℤ) (d : ℕ) → d ≡ 1 → t ≡ int_div t (pos d)
by_one t d e =
    let h : int_div t (pos 1) *ℤ pos 1 ≡ t = int_div-mul t 1 (one-dvd (unsigned_abs t)) in
    let q : t ≡ int_div t (pos 1) = omega (arith, ints, h) in
    subst (λ (n : ℕ). t ≡ int_div t (pos n)) (sym e) q

-- and 0 divided by a number is 0
pub nothing_by : (t : ℤ) (d : ℕ) → 0 < d → t ≡ pos 0 → pos 0 ≡ int_div t (pos d)
nothing_by t d pd e =
    let z : int_div t (pos d) *ℤ pos d ≡ pos 0 *ℤ pos d = int_div-mul t d (subst (λ (x : ℤ). d ∣ unsigned_abs x) (sym e) (dvd-zero d)) ∙ (e ∙ sym (same_value (nat 0 ⊗ nat d) (nat 0) (omega arith))) in
    sym (mul_cancel (int_div t (pos d)) (pos 0) d pd z)

-- ---- numbers before a place, each times a factor
pub record IsRaisedBelow (old : List ℤ) (factor : ℤ) (tops : List ℤ) (k : ℕ) : Type 0 where
  pub done : (j : ℕ) → j < k → top_at tops j ≡ top_at old j *ℤ factor
  pub rest : (j : ℕ) → k ≤ j → top_at tops j ≡ top_at old j

pub raised_none : (old : List ℤ) (f : ℤ) → IsRaisedBelow old f old 0
raised_none old f = record { done = λ j h. absurd (omega arith); rest = λ j h. refl }

pub raised_more : (old : List ℤ) (f : ℤ) (tops : List ℤ) (k : ℕ) (t : ℤ) → k < length tops → t ≡ top_at old k *ℤ f → IsRaisedBelow old f tops k → IsRaisedBelow old f (set tops k t) (k + 1)
raised_more old f tops k t lt e h =
    record {
      done = below_more (λ j. top_at (set tops k t) j ≡ top_at old j *ℤ f) k
          (λ j q. get_or-set_other tops k j t (pos 0) (λ e. omega arith) ∙ h.done j q)
          (get_or-set_same tops k t (pos 0) lt ∙ e);
      rest = λ j q. get_or-set_other tops k j t (pos 0) (λ e. omega arith) ∙ h.rest j (omega arith);
    }

pub zero_at : (n k : ℕ) → k < n → top_at (replicate n (pos 0)) k ≡ pos 0
zero_at n k h = get_or-replicate n k (pos 0) (pos 0) h
