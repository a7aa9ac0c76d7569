-- A sum in lowest terms: over the least common denominator its numerator and that denominator have in common what the
-- numerator has in common with the greatest common divisor of the two denominators (Knuth, The Art of Computer
-- Programming, volume 2, section 4.5.1).
use Rattle.std.specs.Prelude.{◌≡◌, ℕ, suc, ◌+◌, ◌-◌, ◌*◌, ◌/◌, ◌<◌, ℤ, pos, negsuc, ◌+ℤ◌, ◌*ℤ◌, int_div, ◌⊎◌}
use Rattle.std.specs.Int.{◌∣◌}
use Rattle.std.proofs.Common.{sym, ap, subst, ◌∙◌, arith, inl, inr, ⊎_elim}
use Rattle.std.proofs.lemmas.Bool.{cases_lt}
use Rattle.std.proofs.lemmas.Int.{ints, unsigned_abs-mul}
use Rattle.std.proofs.Math.IntN.{nat_abs}
use Rattle.std.proofs.Math.Nat.{dvd-sub, dvd-add, dvd_trans, dvd-mul_left, dvd-mul_right_of_dvd, eq-one_of_dvd-one, mul-div_cancel', div-mul_cancel, mul-div_cancel, mul_assoc}
use Rattle.fractions.specs.Gcd.{gcd, gcd_is, gcd_pos, gcd_comm, gcd_from_IsGcd, gcd_of_parts, gcd_of_product, coprime_of_divisors, dvd_from_coprime}
use Rattle.fractions.specs.Fraction.{Fraction, frac, num-frac_lem, den-frac_lem, ◌+ʳ◌}
use Rattle.fractions.proofs.Sum.{IsCommon, common_parts}
use Rattle.fractions.proofs.Lowest.{IsLowest}

-- what divides a sum and one of its two terms divides the other
abs_of_term : (x y : ℤ) → (nat_abs y ≡ nat_abs (x +ℤ y) - nat_abs x) ⊎ ((nat_abs y ≡ nat_abs x - nat_abs (x +ℤ y)) ⊎ (nat_abs y ≡ nat_abs (x +ℤ y) + nat_abs x))
abs_of_term (pos a) (pos b) = inl (omega (arith, ints))
abs_of_term (negsuc a) (negsuc b) = inl (omega (arith, ints))
abs_of_term (pos a) (negsuc b) = ⊎_elim (λ l. inr (inr (omega (arith, ints)))) (λ l. inr (inl (omega (arith, ints)))) (cases_lt a (suc b))
abs_of_term (negsuc a) (pos b) = ⊎_elim (λ l. inr (inl (omega (arith, ints)))) (λ l. inr (inr (omega (arith, ints)))) (cases_lt b (suc a))

dvd_term : (d : ℕ) (x y : ℤ) → d ∣ nat_abs (x +ℤ y) → d ∣ nat_abs x → d ∣ nat_abs y
dvd_term d x y s t =
    ⊎_elim
    (λ e. subst (λ (k : ℕ). d ∣ k) (sym e) (dvd-sub d s t))
    (⊎_elim (λ e. subst (λ (k : ℕ). d ∣ k) (sym e) (dvd-sub d t s)) (λ e. subst (λ (k : ℕ). d ∣ k) (sym e) (dvd-add d s t)))
    (abs_of_term x y)

dvd_times : (d p : ℕ) (a : ℤ) → d ∣ p → d ∣ nat_abs (a *ℤ pos p)
dvd_times d p a h = subst (λ (k : ℕ). d ∣ k) (sym (unsigned_abs-mul a (pos p))) (dvd_trans d h (dvd-mul_left p (nat_abs a)))

-- the numerator of a sum has nothing in common with the first factor
apart : (t x y : ℤ) (p : ℕ) → t ≡ x +ℤ y → p ∣ nat_abs x → gcd (nat_abs y) p ≡ 1 → gcd (nat_abs t) p ≡ 1
apart t x y p e px one =
    let g : ℕ = gcd (nat_abs t) p in
    let s : g ∣ nat_abs (x +ℤ y) = subst (λ (z : ℤ). g ∣ nat_abs z) e (gcd_is (nat_abs t) p).0 in
    let gp : g ∣ p = (gcd_is (nat_abs t) p).1 in
    eq-one_of_dvd-one (subst (λ (k : ℕ). g ∣ k) one ((gcd_is (nat_abs y) p).2 g (dvd_term g x y s (dvd_trans g gp px)) gp))

turned_sum : (x y : ℤ) → x +ℤ y ≡ y +ℤ x
turned_sum x y = omega (arith, ints)

part_of : (m k : ℕ) → k ∣ m → m / k ∣ m
part_of m k h = subst (λ (s : ℕ). m / k ∣ s) (mul-div_cancel' k h) (dvd-mul_left (m / k) k)

-- a numerator times a factor of the other denominator
times_apart : (a : ℤ) (b p q : ℕ) → gcd (nat_abs a) b ≡ 1 → q ∣ b → gcd p q ≡ 1 → gcd (nat_abs (a *ℤ pos p)) q ≡ 1
times_apart a b p q one h pq =
    let aq : gcd (nat_abs a) q ≡ 1 = coprime_of_divisors (nat_abs a) b (nat_abs a) q one (dvd_self (nat_abs a)) h in
    ap (λ k. gcd k q) (unsigned_abs-mul a (pos p)) ∙ gcd_of_product (nat_abs a) p q aq pq
  where
    dvd_self : (n : ℕ) → n ∣ n
    dvd_self n = subst (λ (k : ℕ). n ∣ k) (omega arith) (dvd-mul_left n 1)

-- with the denominators q * g and p * g, the numerator has in common with q * (p * g) what it has in common with g
shared_by : (n q p g : ℕ) → gcd n p ≡ 1 → gcd n q ≡ 1 → gcd n (q * (p * g)) ≡ gcd n g
shared_by n q p g np nq =
    let h : ℕ = gcd n g in
    let both : gcd n (q * p) ≡ 1 = gcd_comm n (q * p) ∙ gcd_of_product q p n (gcd_comm q n ∙ nq) (gcd_comm p n ∙ np) in
    let around : g * (q * p) ≡ q * (p * g) = omega arith in
    sym
    (gcd_from_IsGcd n (q * (p * g)) h (
      (gcd_is n g).0,
      subst (λ (k : ℕ). h ∣ k) around (dvd-mul_right_of_dvd h (gcd_is n g).1 (q * p)),
      λ e en el.
          let free : gcd e (q * p) ≡ 1 = coprime_of_divisors n (q * p) e (q * p) both en (dvd_same (q * p)) in
          (gcd_is n g).2 e en (dvd_from_coprime e (q * p) g free (subst (λ (k : ℕ). e ∣ k) (sym around) el)),
    ))
  where
    dvd_same : (n : ℕ) → n ∣ n
    dvd_same n = subst (λ (k : ℕ). n ∣ k) (omega arith) (dvd-mul_left n 1)

divided_by : (q d h : ℕ) → 0 < h → h ∣ d → q * d / h ≡ q * (d / h)
divided_by q d h ph hd =
    ap (λ k. q * k / h) (sym (div-mul_cancel h hd)) ∙ (ap (λ k. k / h) (sym (mul_assoc q (d / h) h)) ∙ mul-div_cancel (q * (d / h)) ph)

pub sum_lowest : (x y : Fraction) (t : ℤ) (g h : ℕ) → g ≡ gcd x.den y.den → t ≡ x.num *ℤ pos (y.den / g) +ℤ y.num *ℤ pos (x.den / g) → h ≡ gcd (nat_abs t) g → IsLowest (int_div t (pos h)) (x.den / g * (y.den / h)) (x +ʳ y)
sum_lowest x y t g h eg et eh =
    let gb : g ∣ x.den = subst (λ (k : ℕ). k ∣ x.den) (sym eg) (gcd_is x.den y.den).0 in
    let gd : g ∣ y.den = subst (λ (k : ℕ). k ∣ y.den) (sym eg) (gcd_is x.den y.den).1 in
    let pg : 0 < g = subst (λ (k : ℕ). 0 < k) (sym eg) (gcd_pos x.den y.den y.positive) in
    let ph : 0 < h = subst (λ (k : ℕ). 0 < k) (sym eh) (gcd_pos (nat_abs t) g pg) in
    let hg : h ∣ g = subst (λ (k : ℕ). k ∣ g) (sym eh) (gcd_is (nat_abs t) g).1 in
    let q : ℕ = x.den / g in
    let p : ℕ = y.den / g in
    let qp : gcd q p ≡ 1 = gcd_of_parts x.den y.den g q p pg eg (sym (mul-div_cancel' g gb)) (sym (mul-div_cancel' g gd)) in
    let pq : gcd p q ≡ 1 = gcd_comm p q ∙ qp in
    let tp : gcd (nat_abs t) p ≡ 1 = apart t (x.num *ℤ pos p) (y.num *ℤ pos q) p et (dvd_times p p x.num (dvd_self p)) (times_apart y.num y.den q p y.lowest (part_of y.den g gd) qp) in
    let tq : gcd (nat_abs t) q ≡ 1 = apart t (y.num *ℤ pos q) (x.num *ℤ pos p) q (et ∙ turned_sum (x.num *ℤ pos p) (y.num *ℤ pos q)) (dvd_times q q y.num (dvd_self q)) (times_apart x.num x.den p q x.lowest (part_of x.den g gb) pq) in
    let bottom : x.den * p ≡ q * (p * g) = ap (λ k. k * p) (sym (div-mul_cancel g gb)) ∙ regroup q g p in
    let whole : q * (p * g) ≡ q * y.den = ap (λ k. q * k) (div-mul_cancel g gd) in
    let same : gcd (nat_abs t) (x.den * p) ≡ h = ap (gcd (nat_abs t)) bottom ∙ (shared_by (nat_abs t) q p g tp tq ∙ sym eh) in
    let c : IsCommon x y (x.den * (y.den / gcd x.den y.den)) (y.den / gcd x.den y.den) (x.den / gcd x.den y.den) = common_parts x y in
    let positive : 0 < x.den * p = subst (λ (k : ℕ). 0 < x.den * (y.den / k)) (sym eg) c.positive in
    let value : frac t (x.den * p) ≡ x +ʳ y = ap (λ k. frac k (x.den * p)) et ∙ (ap (λ k. frac (x.num *ℤ pos (y.den / k) +ℤ y.num *ℤ pos (x.den / k)) (x.den * (y.den / k))) eg ∙ c.sum_is) in
    record {
      num_is = ap (λ (f : Fraction). f.num) (sym value) ∙ (num-frac_lem t (x.den * p) positive ∙ ap (λ k. int_div t (pos k)) same);
      den_is =
          ap (λ (f : Fraction). f.den) (sym value)
          ∙ (den-frac_lem t (x.den * p) positive
          ∙ (ap (λ k. x.den * p / k) same
          ∙ (ap (λ k. k / h) (bottom ∙ whole) ∙ divided_by q y.den h ph (dvd_trans h hg gd))));
    }
  where
    dvd_self : (n : ℕ) → n ∣ n
    dvd_self n = subst (λ (k : ℕ). n ∣ k) (omega arith) (dvd-mul_left n 1)

    regroup : (q g p : ℕ) → q * g * p ≡ q * (p * g)
    regroup q g p = omega arith
