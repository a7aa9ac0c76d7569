-- Numbers over one denominator: what an exchange makes of them, and that it fits.
use Rattle.std.specs.Prelude.{◌≡◌, ◌≢◌, ℕ, zero, suc, ◌+◌, ◌*◌, ◌/◌, ◌<◌, ◌≤◌, ◌^◌, ℤ, pos, negsuc, ◌+ℤ◌, ◌*ℤ◌, ◌-ℤ◌, neg_ℤ, ◌<ℤ◌, Bool, true, false, unsigned_abs, if◌then◌else◌}
use Rattle.std.specs.Int.{◌∣◌}
use Rattle.std.proofs.Common.{sym, ap, subst, ◌∙◌, arith}
use Rattle.std.proofs.Math.IntN.{nat_abs}
use Rattle.std.proofs.Math.Nat.{mul-div_cancel', dvd-mul_right, pos_of_dvd_of_pos, le_of_dvd, mul_comm, lt_of_mul-lt-mul_right}
use Rattle.std.proofs.lemmas.Int.{ints, unsigned_abs-mul}
use Rattle.std.proofs.lemmas.Nat.{mul-lt}
use Rattle.fractions.specs.Gcd.{gcd}
use Rattle.fractions.specs.Fraction.{Fraction, frac, frac_parts, IsMultiple, mul_cancel, lower_pos, zero_fraction, negated, ◌+ʳ◌, ◌-ʳ◌, ◌*ʳ◌, ◌/ʳ◌, ◌<ʳ◌}
use Rattle.fractions.specs.Fracs.{pos_product, frac_eq, frac_scale, frac_same, cross_from_same, add-frac, mul-frac, negated-frac}
use Rattle.fractions.specs.Limits.{IsNarrow, SumFits, lcm, num_over}
use Rattle.fractions.specs.Ring.{int, nat, neg, ◌⊗◌, ◌⊕◌, ◌⊖◌, same_value, value_lt, sides_of_lt}
use Rattle.fractions.proofs.Bounds.{num-frac-le, den-frac-le}
use Rattle.fractions.proofs.Common.{dvd-lcm_left, dvd-lcm_right, lcm-dvd}
use Rattle.fractions.proofs.Laws.{/ʳ-*ʳ, *ʳ_cancel}
use Rattle.linear_table.specs.Wide.{LessFits}

-- ---- a sum over a common denominator that is below 2 ^ 124 fits
over_same : (x : Fraction) (l : ℕ) → 0 < l → x.den ∣ l → frac (num_over x l) l ≡ x
over_same x l p h =
    ap (λ d. frac (x.num *ℤ pos (l / x.den)) d) (sym (mul-div_cancel' x.den h)) ∙ (frac_scale x.num x.den (l / x.den) x.positive (lower_pos l x.den p h) ∙ frac_same x)

den_divides : (n : ℤ) (m : ℕ) (x : Fraction) → 0 < m → x ≡ frac n m → x.den ∣ m
den_divides n m x p e =
    let h : IsMultiple n m (frac n m) (gcd (nat_abs n) m) = frac_parts n m p in
    subst (λ (k : ℕ). x.den ∣ k) (ap (λ (y : Fraction). y.den * gcd (nat_abs n) m) e ∙ sym h.den_is) (dvd-mul_right x.den (gcd (nat_abs n) m))

abs_scaled : (n a : ℤ) (l k : ℕ) → 0 < l → n *ℤ pos (l * k) ≡ a *ℤ pos l → unsigned_abs n * k ≡ unsigned_abs a
abs_scaled n a l k p e =
    let flat : n *ℤ pos k *ℤ pos l ≡ a *ℤ pos l = same_value (int n ⊗ nat k ⊗ nat l) (int n ⊗ nat (l * k)) (omega arith) ∙ e in
    sym (unsigned_abs-mul n (pos k)) ∙ ap unsigned_abs (mul_cancel (n *ℤ pos k) a l p flat)

over_small : (x : Fraction) (a : ℤ) (l m : ℕ) → 0 < l → 0 < m → x ≡ frac a m → x.den ∣ l → l ∣ m → unsigned_abs (num_over x l) ≤ unsigned_abs a
over_small x a l m pl pm e h lm =
    let cross : num_over x l *ℤ pos m ≡ a *ℤ pos l = cross_from_same (num_over x l) a l m pl pm (over_same x l pl h ∙ e) in
    let k : ℕ = m / l in
    let mk : l * k ≡ m = mul-div_cancel' l lm in
    let pk : 0 < k = lower_pos m l pm lm in
    let whole : unsigned_abs (num_over x l) * k ≡ unsigned_abs a = abs_scaled (num_over x l) a l k pl (ap (λ j. num_over x l *ℤ pos j) mk ∙ cross) in
    times_le (unsigned_abs (num_over x l)) k (unsigned_abs a) pk whole
  where
    times_le : (n k a : ℕ) → 0 < k → n * k ≡ a → n ≤ a
    times_le n zero a p e = absurd (omega arith)
    times_le n (suc k) a p e = omega (arith, e)

abs_plus : (a b : ℤ) → unsigned_abs (a +ℤ b) ≤ unsigned_abs a + unsigned_abs b
abs_plus a b = omega (arith, ints)

sum_fits_over : (x y : Fraction) (a b : ℤ) (m : ℕ) → 0 < m → x ≡ frac a m → y ≡ frac b m → m < 2 ^ 124 → unsigned_abs a < 2 ^ 124 → unsigned_abs b < 2 ^ 124 → SumFits x y
sum_fits_over x y a b m pm ex ey hm ha hb =
    let l : ℕ = lcm x.den y.den in
    let lm : l ∣ m = lcm-dvd x.den y.den m y.positive (den_divides a m x pm ex) (den_divides b m y pm ey) in
    let pl : 0 < l = pos_of_dvd_of_pos lm pm in
    let ll : l ≤ m = le_of_dvd pm lm in
    let f : unsigned_abs (num_over x l) ≤ unsigned_abs a = over_small x a l m pl pm ex (dvd-lcm_left x.den y.den) lm in
    let s : unsigned_abs (num_over y l) ≤ unsigned_abs b = over_small y b l m pl pm ey (dvd-lcm_right x.den y.den) lm in
    record {
      common = omega (arith, ll, hm);
      first = omega (arith, f, ha);
      second = omega (arith, s, hb);
      sum = omega (arith, f, s, ha, hb, abs_plus (num_over x l) (num_over y l));
    }

pub narrow_over : (a : ℤ) (m : ℕ) → 0 < m → m < 2 ^ 124 → unsigned_abs a < 2 ^ 124 → IsNarrow (frac a m)
narrow_over a m p hm ha = record { narrow_num = omega (arith, num-frac-le a m p, ha); narrow_den = omega (arith, den-frac-le a m p, hm) }

abs_neg : (a : ℤ) → unsigned_abs (neg_ℤ a) ≡ unsigned_abs a
abs_neg a = omega (arith, ints)

product_small : (a b : ℕ) → a < 2 ^ 62 → b < 2 ^ 62 → a * b < 2 ^ 124
product_small a b p q = let h : a * b < 2 ^ 62 * 2 ^ 62 = mul-lt _ _ _ _ p q in omega (arith, h)

-- ---- t/d - (u/d) * (v/p) fits where the products are small
pub less_fits_by : (t u v : ℤ) (d p : ℕ) → 0 < d → 0 < p → d < 2 ^ 62 → p < 2 ^ 62 → unsigned_abs t * p < 2 ^ 124 → unsigned_abs u * unsigned_abs v < 2 ^ 124 → LessFits (frac t d) (frac u d) (frac v p)
less_fits_by t u v d p pd pp hd hp htp huv =
    let w : frac u d *ʳ frac v p ≡ frac (u *ℤ v) (d * p) = mul-frac u v d p pd pp in
    let m : d * p < 2 ^ 124 = product_small d p hd hp in
    let pm : 0 < d * p = pos_product d p pd pp in
    let uv : unsigned_abs (u *ℤ v) < 2 ^ 124 = subst (λ (k : ℕ). k < 2 ^ 124) (sym (unsigned_abs-mul u v)) huv in
    let tp : unsigned_abs (t *ℤ pos p) < 2 ^ 124 = subst (λ (k : ℕ). k < 2 ^ 124) (sym (unsigned_abs-mul t (pos p))) htp in
    let nw : negated (frac u d *ʳ frac v p) ≡ frac (neg_ℤ (u *ℤ v)) (d * p) = ap negated w ∙ negated-frac (u *ℤ v) (d * p) pm in (
      subst IsNarrow (sym w) (narrow_over (u *ℤ v) (d * p) pm m uv),
      sum_fits_over (frac t d) (negated (frac u d *ʳ frac v p)) (t *ℤ pos p) (neg_ℤ (u *ℤ v)) (d * p) pm (sym (frac_scale t d p pd pp)) nw m tp (subst (λ (k : ℕ). k < 2 ^ 124) (sym (abs_neg (u *ℤ v))) uv),
    )

-- as where a divisor of the second's top and of the third's denominator is left out of both
cross_out : (f v : ℤ) (d a g : ℕ) → f *ℤ pos g *ℤ v *ℤ pos (d * a) ≡ f *ℤ v *ℤ pos (d * (a * g))
cross_out f v d a g = same_value (int f ⊗ nat g ⊗ int v ⊗ nat (d * a)) (int f ⊗ int v ⊗ nat (d * (a * g))) (omega arith)

product_out : (f v : ℤ) (d a g : ℕ) → 0 < d → 0 < a → 0 < g → frac (f *ℤ pos g) d *ʳ frac v (a * g) ≡ frac (f *ℤ v) (d * a)
product_out f v d a g pd pa pg =
    let pag : 0 < a * g = pos_product a g pa pg in
    mul-frac (f *ℤ pos g) v d (a * g) pd pag ∙ frac_eq (f *ℤ pos g *ℤ v) (f *ℤ v) (d * (a * g)) (d * a) (pos_product d (a * g) pd pag) (pos_product d a pd pa) (cross_out f v d a g)

fits_out : (t f v : ℤ) (d a g : ℕ) → 0 < d → 0 < a → 0 < g → d < 2 ^ 62 → a < 2 ^ 62 → unsigned_abs t * a < 2 ^ 124 → unsigned_abs f * unsigned_abs v < 2 ^ 124 → LessFits (frac t d) (frac (f *ℤ pos g) d) (frac v (a * g))
fits_out t f v d a g pd pa pg hd ha hta hfv =
    let u : ℤ = f *ℤ pos g in
    let p : ℕ = a * g in
    let w : frac u d *ʳ frac v p ≡ frac (f *ℤ v) (d * a) = product_out f v d a g pd pa pg in
    let m : d * a < 2 ^ 124 = product_small d a hd ha in
    let pm : 0 < d * a = pos_product d a pd pa in
    let fv : unsigned_abs (f *ℤ v) < 2 ^ 124 = subst (λ (k : ℕ). k < 2 ^ 124) (sym (unsigned_abs-mul f v)) hfv in
    let ta : unsigned_abs (t *ℤ pos a) < 2 ^ 124 = subst (λ (k : ℕ). k < 2 ^ 124) (sym (unsigned_abs-mul t (pos a))) hta in
    let nw : negated (frac u d *ʳ frac v p) ≡ frac (neg_ℤ (f *ℤ v)) (d * a) = ap negated w ∙ negated-frac (f *ℤ v) (d * a) pm in (
      subst IsNarrow (sym w) (narrow_over (f *ℤ v) (d * a) pm m fv),
      sum_fits_over (frac t d) (negated (frac u d *ʳ frac v p)) (t *ℤ pos a) (neg_ℤ (f *ℤ v)) (d * a) pm (sym (frac_scale t d a pd pa)) nw m ta (subst (λ (k : ℕ). k < 2 ^ 124) (sym (abs_neg (f *ℤ v))) fv),
    )

pub less_fits_out : (t u v f : ℤ) (d p a g : ℕ) → 0 < d → 0 < a → 0 < g → d < 2 ^ 62 → a < 2 ^ 62 → f *ℤ pos g ≡ u → a * g ≡ p → unsigned_abs t * a < 2 ^ 124 → unsigned_abs f * unsigned_abs v < 2 ^ 124 → LessFits (frac t d) (frac u d) (frac v p)
less_fits_out t u v f d p a g pd pa pg hd ha eu ep hta hfv =
    subst (λ (x : ℤ). LessFits (frac t d) (frac x d) (frac v p)) eu (subst (λ (n : ℕ). LessFits (frac t d) (frac (f *ℤ pos g) d) (frac v n)) ep (fits_out t f v d a g pd pa pg hd ha hta hfv))

-- as where all are below 2 ^ 62
pub less_fits : (t u v : ℤ) (d p : ℕ) → 0 < d → 0 < p → d < 2 ^ 62 → p < 2 ^ 62 → unsigned_abs t < 2 ^ 62 → unsigned_abs u < 2 ^ 62 → unsigned_abs v < 2 ^ 62 → LessFits (frac t d) (frac u d) (frac v p)
less_fits t u v d p pd pp hd hp ht hu hv = less_fits_by t u v d p pd pp hd hp (product_small _ _ ht hp) (product_small _ _ hu hv)

cross_is : (t v b : ℤ) (a g d : ℕ) → (t *ℤ pos a -ℤ v *ℤ b) *ℤ pos (d * (d * (a * g))) ≡ (t *ℤ pos (d * (a * g)) +ℤ neg_ℤ (b *ℤ pos g *ℤ v) *ℤ pos d) *ℤ pos (d * a)
cross_is t v b a g d =
    same_value ((int t ⊗ nat a ⊖ int v ⊗ int b) ⊗ nat (d * (d * (a * g)))) ((int t ⊗ nat (d * (a * g)) ⊕ neg (int b ⊗ nat g ⊗ int v) ⊗ nat d) ⊗ nat (d * a)) (omega arith)

-- its value, where g divides u and p
pub less_is : (t u v b : ℤ) (d p a g : ℕ) → 0 < d → 0 < a → 0 < g → b *ℤ pos g ≡ u → a * g ≡ p → frac (t *ℤ pos a -ℤ v *ℤ b) (d * a) ≡ frac t d -ʳ frac u d *ʳ frac v p
unfolding ◌-ʳ◌
less_is t u v b d p a g pd pa pg eu ep =
    let pag : 0 < a * g = pos_product a g pa pg in
    let pm : 0 < d * (a * g) = pos_product d (a * g) pd pag in
    subst (λ (k : ℤ). frac (t *ℤ pos a -ℤ v *ℤ b) (d * a) ≡ frac t d +ʳ negated (frac k d *ʳ frac v p)) eu
    (subst (λ (k : ℕ). frac (t *ℤ pos a -ℤ v *ℤ b) (d * a) ≡ frac t d +ʳ negated (frac (b *ℤ pos g) d *ʳ frac v k)) ep
    (frac_eq (t *ℤ pos a -ℤ v *ℤ b) (t *ℤ pos (d * (a * g)) +ℤ neg_ℤ (b *ℤ pos g *ℤ v) *ℤ pos d) (d * a) (d * (d * (a * g))) (pos_product d a pd pa) (pos_product d (d * (a * g)) pd pm) (cross_is t v b a g d)
    ∙ sym (ap (λ y. frac t d +ʳ y) (ap negated (mul-frac (b *ℤ pos g) v d (a * g) pd pag) ∙ negated-frac (b *ℤ pos g *ℤ v) (d * (a * g)) pm) ∙ add-frac t (neg_ℤ (b *ℤ pos g *ℤ v)) d (d * (a * g)) pd pm)))

-- ---- a row divided by its number p at the place that enters
pub turned_top : ℤ → ℤ → ℤ
turned_top p t = if is_below p then neg_ℤ t else t
  where
    is_below : ℤ → Bool
    is_below (pos n) = false
    is_below (negsuc n) = true

pub quotient_is : (t p s : ℤ) (d m : ℕ) → 0 < d → 0 < m → s *ℤ p ≡ t *ℤ pos m → p ≢ pos 0 → frac p d ≢ zero_fraction → frac t d /ʳ frac p d ≡ frac s m
quotient_is t p s d m pd pm e hp h =
    sym (*ʳ_cancel (frac s m) (frac t d /ʳ frac p d) (frac p d) h
    (mul-frac s p m d pm pd
    ∙ (ap (λ k. frac k (m * d)) e
    ∙ (ap (λ k. frac (t *ℤ pos m) k) (mul_comm m d)
    ∙ (frac_scale t d m pd pm ∙ sym (/ʳ-*ʳ (frac t d) (frac p d) h))))))

-- ---- how two quotients compare
cross_lt : (p q : ℤ) (k : ℕ) → 0 < k → (p *ℤ pos k) <ℤ (q *ℤ pos k) → p <ℤ q
cross_lt p q k pk h =
    value_lt (int p) (int q) (lt_of_mul-lt-mul_right k (omega (arith, sides_of_lt (int p ⊗ nat k) (int q ⊗ nat k) h)))

pub frac_lt : (a c : ℤ) (b d : ℕ) → 0 < b → 0 < d → (a *ℤ pos d) <ℤ (c *ℤ pos b) → frac a b <ʳ frac c d
frac_lt a c b d pb pd h =
    let mx : IsMultiple a b (frac a b) (gcd _ _) = frac_parts a b pb in
    let my : IsMultiple c d (frac c d) (gcd _ _) = frac_parts c d pd in
    record { cross = by (frac a b).num (frac c d).num (frac a b).den (frac c d).den _ _ mx.pos_factor my.pos_factor (rw (← mx.num_is, ← mx.den_is, ← my.num_is, ← my.den_is) h) }
  where
    by : (x y : ℤ) (b d g h : ℕ) → 0 < g → 0 < h → (x *ℤ pos g *ℤ pos (d * h)) <ℤ (y *ℤ pos h *ℤ pos (b * g)) → (x *ℤ pos d) <ℤ (y *ℤ pos b)
    by x y b d g h pg ph lt =
        cross_lt (x *ℤ pos d) (y *ℤ pos b) (g * h) (pos_product g h pg ph)
        (subst (λ (k : ℤ). k <ℤ (y *ℤ pos b *ℤ pos (g * h))) (same_value (int x ⊗ nat g ⊗ nat (d * h)) (int x ⊗ nat d ⊗ nat (g * h)) (omega arith))
        (subst (λ (k : ℤ). (x *ℤ pos g *ℤ pos (d * h)) <ℤ k) (same_value (int y ⊗ nat h ⊗ nat (b * g)) (int y ⊗ nat b ⊗ nat (g * h)) (omega arith)) lt))
