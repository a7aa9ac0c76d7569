-- The least common denominator.
use Rattle.std.specs.Prelude.{◌≡◌, ℕ, ◌*◌, ◌/◌, ◌<◌}
use Rattle.std.specs.Int.{◌∣◌}
use Rattle.std.proofs.Common.{sym, ap, subst, ◌∙◌, arith}
use Rattle.std.proofs.Math.Nat.{dvd-mul_left, mul-dvd-mul_left, dvd_of_mul-dvd-mul_left, div-mul_cancel, mul_comm}
use Rattle.fractions.specs.Gcd.{gcd, gcd_is, gcd_pos, dvd-mul-gcd}
use Rattle.fractions.specs.Fraction.{Fraction, frac}
use Rattle.fractions.specs.Fracs.{frac_same, frac_scale}
use Rattle.fractions.specs.Limits.{lcm, num_over}
use Rattle.fractions.proofs.Sum.{IsCommon, common_parts}

-- the least common multiple times the greatest common divisor is the product
lcm-mul-gcd : (b d : ℕ) → gcd b d * lcm b d ≡ b * d
lcm-mul-gcd b d =
    around (gcd b d) b (d / gcd b d) ∙ ap (λ k. b * k) (div-mul_cancel (gcd b d) (gcd_is b d).1)
  where
    around : (g b k : ℕ) → g * (b * k) ≡ b * (k * g)
    around g b k = omega arith

pub dvd-lcm_left : (b d : ℕ) → b ∣ lcm b d
dvd-lcm_left b d = subst (λ (k : ℕ). b ∣ k) (mul_comm (d / gcd b d) b) (dvd-mul_left b (d / gcd b d))

pub dvd-lcm_right : (b d : ℕ) → d ∣ lcm b d
dvd-lcm_right b d =
    let g : ℕ = gcd b d in
    subst (λ (k : ℕ). d ∣ k) (turn (b / g) g (d / g) b d (div-mul_cancel g (gcd_is b d).0) (div-mul_cancel g (gcd_is b d).1)) (dvd-mul_left d (b / g))
  where
    turn : (q g p b d : ℕ) → q * g ≡ b → p * g ≡ d → q * d ≡ b * p
    turn q g p b d eb ed = rw (← eb, ← ed) (omega arith)

-- whatever both divide, it divides
pub lcm-dvd : (b d m : ℕ) → 0 < d → b ∣ m → d ∣ m → lcm b d ∣ m
lcm-dvd b d m p hb hd =
    let g : ℕ = gcd b d in
    let first : b * d ∣ m * b = subst (λ (k : ℕ). b * d ∣ k) (mul_comm b m) (mul-dvd-mul_left d b hd) in
    let second : b * d ∣ m * d = subst (λ (k : ℕ). k ∣ m * d) (mul_comm d b) (subst (λ (k : ℕ). d * b ∣ k) (mul_comm d m) (mul-dvd-mul_left b d hb)) in
    let both : b * d ∣ m * g = dvd-mul-gcd b d (b * d) m first second in
    dvd_of_mul-dvd-mul_left (lcm b d) (gcd_pos b d p)
    (subst (λ (k : ℕ). g * lcm b d ∣ k) (mul_comm m g) (subst (λ (k : ℕ). k ∣ m * g) (sym (lcm-mul-gcd b d)) both))

pub num_over_same : (x y : Fraction) → frac (num_over x (lcm x.den y.den)) (lcm x.den y.den) ≡ x
num_over_same x y =
    let p : ℕ = y.den / gcd x.den y.den in
    let c : IsCommon x y (x.den * p) p (x.den / gcd x.den y.den) = common_parts x y in
    ap (λ k. frac k (x.den * p)) c.first_is ∙ (frac_scale x.num x.den p x.positive (factor_pos x.den p c.positive) ∙ frac_same x)
  where
    factor_pos : (a k : ℕ) → 0 < a * k → 0 < k
    factor_pos a k h = pos_of k (λ e. not_zero a k e h)
      where
        not_zero : (a k : ℕ) → k ≡ 0 → 0 < a * k → ⊥
        not_zero a k e h = let z : a * k ≡ a * 0 = ap (λ j. a * j) e in omega arith

        pos_of : (k : ℕ) → (k ≡ 0 → ⊥) → 0 < k
        pos_of k h = omega arith
