-- Numbers of few digits times powers of ten are narrow where they are below 10 ^ 30.
use Rattle.std.specs.Prelude.{◌≡◌, ℕ, suc, ◌+◌, ◌*◌, ◌^◌, ◌<◌, ◌≤◌, ℤ, pos, negsuc, ◌+ℤ◌, ◌≤ℤ◌}
use Rattle.std.proofs.Common.{refl, sym, ap, subst, ◌∙◌, arith, ⊎_elim, lit<}
use Rattle.std.proofs.Math.Nat.{mul-le-mul_left, pow-le-pow_right, one-le-pow}
use Rattle.std.proofs.lemmas.Bool.{cases_lt}
use Rattle.std.proofs.lemmas.Nat.{pow-add}
use Rattle.std.proofs.lemmas.Int.{ints}
use Rattle.fractions.specs.Fraction.{Fraction, frac, whole_fraction, ◌*ʳ◌, ◌<ʳ◌}
use Rattle.fractions.specs.Fracs.{mul-frac, frac_scale}
use Rattle.fractions.specs.Limits.{IsNarrow}
use Rattle.fractions.specs.Numeral.{times_ten, IsShort}
use Rattle.fractions.proofs.Bounds.{num-frac-le, den-frac-le}
use Rattle.fractions.proofs.Ceiling.{num-whole, den-whole}
use Rattle.fractions.proofs.Magnitude.{whole_le}
use Rattle.fractions.proofs.Order.{<ʳ_not_≤ʳ}

ten_pos : (k : ℕ) → 0 < 10 ^ k
ten_pos k = omega (arith, one-le-pow k 10 (lit< tt))

-- ---- a number of few digits times a power of ten
whole-mul : (a b : ℕ) → whole_fraction (pos a) *ʳ whole_fraction (pos b) ≡ whole_fraction (pos (a * b))
unfolding whole_fraction
whole-mul a b = mul-frac (pos a) (pos b) 1 1 (lit< tt) (lit< tt)

frac-mul : (a d b : ℕ) → 0 < d → frac (pos a) d *ʳ whole_fraction (pos b) ≡ frac (pos (a * b)) d
unfolding whole_fraction
frac-mul a d b p = mul-frac (pos a) (pos b) d 1 p (lit< tt) ∙ ap (frac (pos (a * b))) (omega arith)

over_one : (a : ℕ) → frac (pos a) 1 ≡ whole_fraction (pos a)
unfolding whole_fraction
over_one a = refl

-- the power of ten of the divisor and that of the factor cancel
above : (k q j : ℕ) → frac (pos (k * 10 ^ (suc q + j))) (10 ^ suc q) ≡ whole_fraction (pos (k * 10 ^ j))
above k q j =
    let e : k * 10 ^ (suc q + j) ≡ k * 10 ^ j * 10 ^ suc q = ap (λ m. k * m) (pow-add 10 (suc q) j) ∙ around k (10 ^ suc q) (10 ^ j) in
    let f : 10 ^ suc q ≡ 1 * 10 ^ suc q = omega arith in
    ap (λ m. frac (pos m) (10 ^ suc q)) e ∙ (ap (frac (pos (k * 10 ^ j * 10 ^ suc q))) f ∙ (frac_scale (pos (k * 10 ^ j)) 1 (10 ^ suc q) (lit< tt) (ten_pos (suc q)) ∙ over_one (k * 10 ^ j)))
  where
    around : (k a b : ℕ) → k * (a * b) ≡ k * b * a
    around k a b = omega arith

beneath : (k j p : ℕ) → frac (pos (k * 10 ^ p)) (10 ^ (suc j + p)) ≡ frac (pos k) (10 ^ suc j)
beneath k j p =
    ap (frac (pos (k * 10 ^ p))) (pow-add 10 (suc j) p) ∙ frac_scale (pos k) (10 ^ suc j) (10 ^ p) (ten_pos (suc j)) (ten_pos p)

pub shift : (k e : ℕ) (p z : ℤ) → z ≡ p +ℤ pos e → times_ten k p *ʳ whole_fraction (pos (10 ^ e)) ≡ times_ten k z
shift k e (pos a) (pos j) h =
    let s : j ≡ a + e = omega (arith, ints) in
    whole-mul (k * 10 ^ a) (10 ^ e) ∙ ap (λ m. whole_fraction (pos m)) (around k (10 ^ a) (10 ^ e) ∙ (ap (λ m. k * m) (sym (pow-add 10 a e)) ∙ ap (λ m. k * 10 ^ m) (sym s)))
  where
    around : (k a b : ℕ) → k * a * b ≡ k * (a * b)
    around k a b = omega arith
shift k e (pos a) (negsuc j) h = absurd (omega (arith, ints))
shift k e (negsuc q) (pos j) h =
    let s : e ≡ suc q + j = omega (arith, ints) in
    frac-mul k (10 ^ suc q) (10 ^ e) (ten_pos (suc q)) ∙ (ap (λ m. frac (pos (k * 10 ^ m)) (10 ^ suc q)) s ∙ above k q j)
shift k e (negsuc q) (negsuc j) h =
    let s : suc q ≡ suc j + e = omega (arith, ints) in
    frac-mul k (10 ^ suc q) (10 ^ e) (ten_pos (suc q)) ∙ (ap (λ m. frac (pos (k * 10 ^ e)) (10 ^ m)) s ∙ beneath k j e)

pub times_factor : (k f : ℕ) (q : ℤ) → times_ten k q *ʳ whole_fraction (pos f) ≡ times_ten (k * f) q
times_factor k f (pos a) = whole-mul (k * 10 ^ a) f ∙ ap (λ m. whole_fraction (pos m)) (around k (10 ^ a) f)
  where
    around : (k a f : ℕ) → k * a * f ≡ k * f * a
    around k a f = omega arith
times_factor k f (negsuc j) = frac-mul k (10 ^ suc j) f (ten_pos (suc j))

-- ---- what is narrow
whole_narrow : (a : ℕ) → a < 2 ^ 127 → IsNarrow (whole_fraction (pos a))
whole_narrow a h = record { narrow_num = rw (num-whole (pos a)) h; narrow_den = rw (den-whole (pos a)) (lit< tt) }

frac_narrow : (k d : ℕ) → 0 < d → k < 2 ^ 127 → d < 2 ^ 127 → IsNarrow (frac (pos k) d)
frac_narrow k d p h l = record { narrow_num = omega (arith, num-frac-le (pos k) d p, h); narrow_den = omega (arith, den-frac-le (pos k) d p, l) }

-- a number of few digits, times a power of ten and a factor, is narrow where it is below the limit before the factor
pub times_narrow : (k f : ℕ) (q : ℤ) → k ≤ 10 ^ 16 → f ≤ 60 → negsuc 14 ≤ℤ q → times_ten k q <ʳ whole_fraction (pos (10 ^ 30)) → IsNarrow (times_ten (k * f) q)
times_narrow k f (pos a) hk hf hq h =
    let small : k * 10 ^ a < 10 ^ 30 = ⊎_elim (λ l. l) (λ l. absurd (<ʳ_not_≤ʳ _ _ h (whole_le (10 ^ 30) (k * 10 ^ a) l))) (cases_lt (k * 10 ^ a) (10 ^ 30)) in
    let m : k * 10 ^ a * f ≤ k * 10 ^ a * 60 = mul-le-mul_left (k * 10 ^ a) hf in
    whole_narrow (k * f * 10 ^ a) (omega (arith, m, small))
times_narrow k f (negsuc j) hk hf hq h =
    let m : k * f ≤ k * 60 = mul-le-mul_left k hf in
    let l : suc j ≤ 15 = omega (arith, ints) in
    let d : 10 ^ suc j ≤ 10 ^ 15 = pow-le-pow_right (lit< tt) l in
    frac_narrow (k * f) (10 ^ suc j) (ten_pos (suc j)) (omega (arith, m, hk)) (omega (arith, d))

at_least : (p : ℤ) (e : ℕ) → negsuc 14 ≤ℤ p → negsuc 14 ≤ℤ (p +ℤ pos e)
at_least p e h = omega (arith, ints)

-- ---- a short number
pub prefixed_narrow : (x : Fraction) (e : ℕ) → IsShort x → x *ʳ whole_fraction (pos (10 ^ e)) <ʳ whole_fraction (pos (10 ^ 30)) → IsNarrow (x *ʳ whole_fraction (pos (10 ^ e)))
prefixed_narrow x e s h =
    let z : ℤ = s.last +ℤ pos e in
    let same : x *ʳ whole_fraction (pos (10 ^ e)) ≡ times_ten s.digits z = ap (λ y. y *ʳ whole_fraction (pos (10 ^ e))) s.value ∙ shift s.digits e s.last z refl in
    let one : times_ten (s.digits * 1) z ≡ times_ten s.digits z = ap (λ k. times_ten k z) (omega arith) in
    subst IsNarrow (one ∙ sym same)
    (times_narrow s.digits 1 z s.few_digits (omega arith) (at_least s.last e s.few_places) (subst (λ (y : Fraction). y <ʳ whole_fraction (pos (10 ^ 30))) same h))

pub value_narrow : (x : Fraction) (e f : ℕ) → IsShort x → f ≤ 60 → x *ʳ whole_fraction (pos (10 ^ e)) <ʳ whole_fraction (pos (10 ^ 30)) → IsNarrow (x *ʳ whole_fraction (pos (10 ^ e)) *ʳ whole_fraction (pos f))
value_narrow x e f s hf h =
    let z : ℤ = s.last +ℤ pos e in
    let same : x *ʳ whole_fraction (pos (10 ^ e)) ≡ times_ten s.digits z = ap (λ y. y *ʳ whole_fraction (pos (10 ^ e))) s.value ∙ shift s.digits e s.last z refl in
    subst IsNarrow (sym (times_factor s.digits f z) ∙ ap (λ y. y *ʳ whole_fraction (pos f)) (sym same))
    (times_narrow s.digits f z s.few_digits hf (at_least s.last e s.few_places) (subst (λ (y : Fraction). y <ʳ whole_fraction (pos (10 ^ 30))) same h))
