-- What the first digits of a numeral and its first place say of its value.
use Rattle.std.specs.Prelude.{◌≡◌, ℕ, zero, suc, ◌+◌, ◌*◌, ◌/◌, ◌^◌, ◌<◌, ◌≤◌, ℤ, pos, negsuc, ◌+ℤ◌, ◌-ℤ◌, ◌*ℤ◌, neg_ℤ, ◌≤ℤ◌, ◌<ℤ◌}
use Rattle.std.proofs.Common.{refl, ap, subst, ◌∙◌, arith, lit<}
use Rattle.std.proofs.Math.Nat.{mul-le-mul_right, pow-suc, pow-le-pow_right, one-le-pow, div-eq_of_lt, le-div_iff_mul-le, lt_of_mul-lt-mul_right, zero-mul}
use Rattle.std.proofs.lemmas.Nat.{pow-add}
use Rattle.std.proofs.lemmas.Int.{ints}
use Rattle.fractions.specs.Gcd.{gcd}
use Rattle.fractions.specs.Fraction.{Fraction, frac, frac_parts, IsMultiple, zero_fraction, whole_fraction, ◌≤ʳ◌, ◌<ʳ◌}
use Rattle.fractions.specs.Fracs.{zero-frac}
use Rattle.fractions.specs.Ring.{int, nat, ◌⊗◌, value_lt, sides_of, over, under}
use Rattle.fractions.specs.Rounding.{rounded}
use Rattle.fractions.specs.Numeral.{times_ten, rounded_at, limit}
use Rattle.fractions.proofs.Rounding.{rounded_front}
use Rattle.fractions.proofs.Ceiling.{num-whole, den-whole, whole_le_whole}
use Rattle.fractions.proofs.Order.{positive_frac}

-- ---- whole numbers and quotients beside a whole number
pub whole_lt : (k b : ℕ) → k < b → whole_fraction (pos k) <ʳ whole_fraction (pos b)
whole_lt k b h =
    record { cross = rw (num-whole (pos k), den-whole (pos k), num-whole (pos b), den-whole (pos b)) (value_lt (nat k ⊗ nat 1) (nat b ⊗ nat 1) (omega arith)) }

pub whole_le : (k b : ℕ) → k ≤ b → whole_fraction (pos k) ≤ʳ whole_fraction (pos b)
whole_le k b h = whole_le_whole (pos k) (pos b) (omega (arith, ints))

quotient_lt : (x : Fraction) (k d b g : ℕ) → 0 < g → pos k ≡ x.num *ℤ pos g → d ≡ x.den * g → k < b * d → x <ʳ whole_fraction (pos b)
quotient_lt x k d b g pg ek ed h =
    let s : over (nat k) + under (int x.num ⊗ nat g) ≡ over (int x.num ⊗ nat g) + under (nat k) = sides_of (nat k) (int x.num ⊗ nat g) ek in
    let t : b * d ≡ b * x.den * g = ap (λ j. b * j) ed ∙ omega arith in
    let less : over (int x.num) * g < (b * x.den + under (int x.num)) * g = omega arith in
    let low : over (int x.num) < b * x.den + under (int x.num) = lt_of_mul-lt-mul_right g less in
    record { cross = rw (num-whole (pos b), den-whole (pos b)) (value_lt (int x.num ⊗ nat 1) (nat b ⊗ nat x.den) (omega arith)) }

pub frac_lt : (k d b : ℕ) → 0 < d → k < b * d → frac (pos k) d <ʳ whole_fraction (pos b)
frac_lt k d b p h =
    let m : IsMultiple (pos k) d (frac (pos k) d) (gcd _ _) = frac_parts (pos k) d p in
    quotient_lt (frac (pos k) d) k d b _ m.pos_factor m.num_is m.den_is h

pub zero_below_limit : zero_fraction <ʳ limit
unfolding whole_fraction
zero_below_limit = positive_frac (pos (10 ^ 18)) 1 (lit< tt) (omega (arith, ints))

-- ---- nothing
half_zero : (u : ℕ) → 0 < u → (2 * 0 + u) / (2 * u) ≡ 0
half_zero u p = div-eq_of_lt (omega arith)

rounded_zero : (d : ℕ) → rounded 0 d ≡ 0
rounded_zero d = half_zero (10 ^ d) (omega (arith, one-le-pow d 10 (lit< tt)))

pub times_zero : (p : ℤ) → times_ten 0 p ≡ zero_fraction
unfolding whole_fraction
times_zero (pos p) = ap (λ k. frac (pos k) 1) (zero-mul (10 ^ p)) ∙ zero-frac 1 (lit< tt)
times_zero (negsuc p) = zero-frac (10 ^ suc p) (omega (arith, one-le-pow (suc p) 10 (lit< tt)))

pub zero_rounded : (s p z : ℤ) → rounded_at 0 s p z ≡ zero_fraction
zero_rounded s p (pos d) = ap (λ k. times_ten k p) (rounded_zero d) ∙ times_zero p
zero_rounded s p (negsuc d) = times_zero s

-- ---- numbers from 10 ^ 18 on
power_le : (i j : ℕ) → i ≤ j → 10 ^ i ≤ 10 ^ j
power_le i j h = pow-le-pow_right (lit< tt) h

large_times : (m a p : ℕ) → 10 ^ a ≤ m → 18 ≤ a + p → limit ≤ʳ times_ten m (pos p)
large_times m a p h l =
    let e : 10 ^ (a + p) ≡ 10 ^ a * 10 ^ p = pow-add 10 a p in
    let f : 10 ^ a * 10 ^ p ≤ m * 10 ^ p = mul-le-mul_right (10 ^ p) h in
    whole_le (10 ^ 18) (m * 10 ^ p) (omega (arith, power_le 18 (a + p) l))

half_ge : (a m u : ℕ) → 0 < u → a * u ≤ m → a ≤ (2 * m + u) / (2 * u)
half_ge a m u p h = (le-div_iff_mul-le (omega arith)).1 (omega arith)

rounded-ge : (m k d a : ℕ) → 10 ^ k ≤ m → k ≡ a + d → 10 ^ a ≤ rounded m d
rounded-ge m k d a h e =
    let s : 10 ^ k ≡ 10 ^ a * 10 ^ d = ap (λ j. 10 ^ j) e ∙ pow-add 10 a d in
    half_ge (10 ^ a) m (10 ^ d) (omega (arith, one-le-pow d 10 (lit< tt))) (omega arith)

pub huge : (m k : ℕ) (s p z : ℤ) → 10 ^ k ≤ m → pos 18 ≤ℤ (pos k +ℤ s) → p ≡ (pos k +ℤ s) -ℤ pos 14 → p -ℤ s ≡ z → limit ≤ʳ rounded_at m s p z
huge m k s (pos p) (pos d) h l ep ez =
    large_times (rounded m d) 14 p (rounded-ge m k d 14 h (omega (arith, ints))) (omega (arith, ints))
huge m k s (negsuc p) (pos d) h l ep ez = absurd (omega (arith, ints))
huge m k (pos s) p (negsuc d) h l ep ez = large_times m k s h (omega (arith, ints))
huge m k (negsuc s) p (negsuc d) h l ep ez = absurd (omega (arith, ints))

-- ---- numbers that round to nothing
tiny_half : (m u : ℕ) → 2 * m < u → (2 * m + u) / (2 * u) ≡ 0
tiny_half m u h = div-eq_of_lt (omega arith)

tiny_rounded : (m k d : ℕ) → m < 10 ^ suc k → suc (suc k) ≤ d → rounded m d ≡ 0
tiny_rounded m k d h l =
    let e : 10 ^ suc (suc k) ≡ 10 ^ suc k * 10 = pow-suc 10 (suc k) in
    tiny_half m (10 ^ d) (omega (arith, power_le (suc (suc k)) d l))

pub tiny : (m k : ℕ) (s z : ℤ) → m < 10 ^ suc k → (pos k +ℤ s) ≤ℤ neg_ℤ (pos 17) → negsuc 14 -ℤ s ≡ z → rounded_at m s (negsuc 14) z ≡ zero_fraction
tiny m k s (pos d) h l e =
    ap (λ r. times_ten r (negsuc 14)) (tiny_rounded m k d h (omega (arith, ints))) ∙ times_zero (negsuc 14)
tiny m k s (negsuc d) h l e = absurd (omega (arith, ints))

-- ---- the first digits are enough
same_place : (m : ℕ) (s s' p z z' : ℤ) → s ≡ s' → z ≡ z' → rounded_at m s p z ≡ rounded_at m s' p z'
same_place m s s' p z z' e f = ap (λ k. rounded_at m k p z) e ∙ ap (rounded_at m s' p) f

pub near_short : (m k : ℕ) (s low p : ℤ) → low ≡ (pos k +ℤ s) +ℤ pos 1 -ℤ pos (suc k) → rounded_at m s p (p -ℤ s) ≡ rounded_at m low p (p -ℤ low)
near_short m k s low p e =
    let f : s ≡ low = omega (arith, ints) in
    same_place m s low p (p -ℤ s) (p -ℤ low) f (ap (λ j. p -ℤ j) f)

long_by : (m t w : ℕ) (s low p : ℤ) → rounded_at m s p (pos (t + suc w)) ≡ rounded_at (m / 10 ^ t) low p (pos (suc w))
long_by m t w s low p = ap (λ r. times_ten r p) (rounded_front m t w)

long_at : (m t : ℕ) (s low p z z' : ℤ) → p -ℤ s ≡ z → p -ℤ low ≡ z' → low ≡ s +ℤ pos t → pos 1 ≤ℤ z' → rounded_at m s p z ≡ rounded_at (m / 10 ^ t) low p z'
long_at m t s low p z (negsuc w) ez ez' el h = absurd (omega (arith, ints))
long_at m t s low p z (pos zero) ez ez' el h = absurd (omega (arith, ints))
long_at m t s low p z (pos (suc w)) ez ez' el h =
    let e : z ≡ pos (t + suc w) = omega (arith, ints) in
    ap (rounded_at m s p) e ∙ long_by m t w s low p

pub near_long : (m k t : ℕ) (s low p : ℤ) → suc k ≡ 16 + t → low ≡ (pos k +ℤ s) +ℤ pos 1 -ℤ pos 16 → ((pos k +ℤ s) -ℤ pos 14) ≤ℤ p → rounded_at m s p (p -ℤ s) ≡ rounded_at (m / 10 ^ t) low p (p -ℤ low)
near_long m k t s low p e el h =
    long_at m t s low p (p -ℤ s) (p -ℤ low) refl refl (omega (arith, ints)) (omega (arith, ints))

-- ---- a number times a power of ten
pub times_low : (k u : ℕ) (p : ℤ) (x : Fraction) → k ≤ 10 ^ 16 → p <ℤ pos 0 → pos u ≡ neg_ℤ p → x ≡ frac (pos k) (10 ^ u) → (x <ʳ limit) × (x ≡ times_ten k p)
times_low k u (pos p) x h n e ex = absurd (omega (arith, ints))
times_low k u (negsuc q) x h n e ex =
    let eu : u ≡ suc q = omega (arith, ints) in
    let one : 1 ≤ 10 ^ suc q = one-le-pow (suc q) 10 (lit< tt) in
    rw (ex, eu) (frac_lt k (10 ^ suc q) (10 ^ 18) (omega arith) (omega arith), refl)

pub times_small : (k u : ℕ) (p : ℤ) (x : Fraction) → pos 0 ≤ℤ p → pos u ≡ p → k * 10 ^ u < 10 ^ 18 → x ≡ whole_fraction (pos (k * 10 ^ u)) → (x <ʳ limit) × (x ≡ times_ten k p)
times_small k u (negsuc p) x n e h ex = absurd (omega (arith, ints))
times_small k u (pos q) x n e h ex =
    let eu : u ≡ q = omega (arith, ints) in
    (rw ex (whole_lt (k * 10 ^ u) (10 ^ 18) h), ex ∙ ap (λ j. whole_fraction (pos (k * 10 ^ j))) eu)

pub times_large : (k u : ℕ) (p : ℤ) → pos 0 ≤ℤ p → pos u ≡ p → 10 ^ 18 ≤ k * 10 ^ u → limit ≤ʳ times_ten k p
times_large k u (negsuc p) n e h = absurd (omega (arith, ints))
times_large k u (pos q) n e h =
    let eu : u ≡ q = omega (arith, ints) in
    subst (λ (j : ℕ). limit ≤ʳ whole_fraction (pos (k * 10 ^ j))) eu (whole_le (10 ^ 18) (k * 10 ^ u) h)
