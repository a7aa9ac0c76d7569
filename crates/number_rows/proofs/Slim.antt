-- Numbers within the limits stay so, and a product with 0 is never wide.
use Rattle.std.specs.Prelude.{◌≡◌, ℕ, ◌*◌, ◌/◌, ◌<◌, ◌≤◌, ◌^◌, ℤ, pos, ◌+ℤ◌, ◌*ℤ◌}
use Rattle.std.proofs.Common.{refl, sym, ap, subst, ◌∙◌, arith, lit<}
use Rattle.std.proofs.lemmas.Int.{ints}
use Rattle.std.proofs.lemmas.Nat.Gcd.{le_of_dvd}
use Rattle.std.proofs.Math.IntN.{nat_abs}
use Rattle.std.proofs.Math.Nat.{div_self}
use Rattle.fractions.specs.Gcd.{gcd, gcd_is, gcd_pos}
use Rattle.fractions.specs.Fraction.{Fraction, frac, zero_fraction, negated, ◌+ʳ◌, ◌-ʳ◌, ◌*ʳ◌}
use Rattle.fractions.specs.Fracs.{atom, nought, ◌⊟◌, opposite, same_amount}
use Rattle.fractions.specs.Limits.{IsNarrow, SumFits, lcm, num_over}
use Rattle.fractions.proofs.Laws.{*ʳ-zero, zero-*ʳ}
use Rattle.fractions.proofs.Bounds.{num-frac-le, den-frac-le}
use Rattle.fractions.proofs.Sum.{IsCommon, common_parts}
use Rattle.linear_table.specs.Wide.{LessFits}

pub narrow_frac : (n : ℤ) (d : ℕ) → 0 < d → nat_abs n < 2 ^ 127 → d < 2 ^ 127 → IsNarrow (frac n d)
narrow_frac n d p hn hd = record { narrow_num = omega (arith, num-frac-le n d p); narrow_den = omega (arith, den-frac-le n d p) }

both_z : {a b c d : ℤ} → a ≡ b → c ≡ d → a +ℤ c ≡ b +ℤ d
both_z {b = b} {c = c} p q = ap (λ x. x +ℤ c) p ∙ ap (λ y. b +ℤ y) q

-- a sum that fits is within the limits
pub narrow_sum : (x y : Fraction) → SumFits x y → IsNarrow (x +ʳ y)
narrow_sum x y h =
    let g : ℕ = gcd x.den y.den in
    let c : IsCommon x y (x.den * (y.den / g)) (y.den / g) (x.den / g) = common_parts x y in
    let P : ℕ → Type 0 = λ k. k < 2 ^ 127 in
    subst IsNarrow c.sum_is
    (narrow_frac (x.num *ℤ pos (y.den / g) +ℤ y.num *ℤ pos (x.den / g)) (x.den * (y.den / g)) c.positive
    (subst P (ap nat_abs (both_z c.first_is c.second_is)) h.sum)
    (subst P c.lcm_is h.common))

pub narrow_less : (t u v : Fraction) → LessFits t u v → IsNarrow (t -ʳ u *ʳ v)
unfolding ◌-ʳ◌
narrow_less t u v h = narrow_sum t (negated (u *ʳ v)) h.1

gcd_one : (b : ℕ) → gcd b 1 ≡ 1
gcd_one b =
    let at_most : gcd b 1 ≤ 1 = le_of_dvd (lit< tt) (gcd_is b 1).1 in
    let above : 0 < gcd b 1 = gcd_pos b 1 (lit< tt) in
    omega arith

lcm_one : (b : ℕ) → lcm b 1 ≡ b
lcm_one b = let e : b * 1 ≡ b = omega arith in ap (λ g. b * (1 / g)) (gcd_one b) ∙ e

den-zero : zero_fraction.den ≡ 1
unfolding zero_fraction
den-zero = refl

num-zero : zero_fraction.num ≡ pos 0
unfolding zero_fraction
num-zero = refl

lcm_zero : (t : Fraction) → lcm t.den zero_fraction.den ≡ t.den
lcm_zero t = ap (λ (d : ℕ). lcm t.den d) den-zero ∙ lcm_one t.den

over_self : (t : Fraction) → num_over t t.den ≡ t.num
over_self t = let e : t.num *ℤ pos 1 ≡ t.num = omega (arith, ints) in ap (λ k. t.num *ℤ pos k) (div_self t.positive) ∙ e

over_zero : (d : ℕ) → num_over zero_fraction d ≡ pos 0
over_zero d = let e : pos 0 *ℤ pos (d / zero_fraction.den) ≡ pos 0 = omega (arith, ints) in ap (λ (k : ℤ). k *ℤ pos (d / zero_fraction.den)) num-zero ∙ e

plus_nothing : (a : ℤ) → nat_abs (a +ℤ pos 0) ≡ nat_abs a
plus_nothing a = omega (arith, ints)

-- 0 is added without a wide number
pub sum_fits_zero : (t : Fraction) → IsNarrow t → SumFits t zero_fraction
sum_fits_zero t h =
    let P : ℕ → Type 0 = λ k. k < 2 ^ 127 in
    let first : num_over t (lcm t.den zero_fraction.den) ≡ t.num = ap (λ (d : ℕ). num_over t d) (lcm_zero t) ∙ over_self t in
    let second : num_over zero_fraction (lcm t.den zero_fraction.den) ≡ pos 0 = over_zero (lcm t.den zero_fraction.den) in
    record {
      common = subst P (sym (lcm_zero t)) h.narrow_den;
      first = subst P (sym (ap nat_abs first)) h.narrow_num;
      second = subst P (sym (ap nat_abs second)) (omega arith);
      sum = subst P (sym (ap nat_abs (both_z first second) ∙ plus_nothing t.num)) h.narrow_num;
    }

negated_zero : negated zero_fraction ≡ zero_fraction
negated_zero = same_amount (opposite nought) nought (omega arith)

pub narrow_zero : IsNarrow zero_fraction
unfolding zero_fraction
narrow_zero = record { narrow_num = lit< tt; narrow_den = lit< tt }

less_fits_product : (t u v : Fraction) → IsNarrow t → u *ʳ v ≡ zero_fraction → LessFits t u v
less_fits_product t u v h e = (
  subst IsNarrow (sym e) narrow_zero,
  subst (λ (p : Fraction). SumFits t (negated p)) (sym e) (subst (λ (p : Fraction). SumFits t p) (sym negated_zero) (sum_fits_zero t h)),
)

-- a factor 0 takes nothing away
pub less_fits_none : (t u v : Fraction) → IsNarrow t → u ≡ zero_fraction → LessFits t u v
less_fits_none t u v h e = less_fits_product t u v h (ap (λ (x : Fraction). x *ʳ v) e ∙ zero-*ʳ v)

pub less_fits_nothing : (t u v : Fraction) → IsNarrow t → v ≡ zero_fraction → LessFits t u v
less_fits_nothing t u v h e = less_fits_product t u v h (ap (λ (x : Fraction). u *ʳ x) e ∙ *ʳ-zero u)

minus_none : (t u v : Fraction) → u *ʳ v ≡ zero_fraction → t ≡ t -ʳ u *ʳ v
minus_none t u v e = same_amount (atom t) (atom t ⊟ nought) (omega arith) ∙ ap (λ (x : Fraction). t -ʳ x) (sym e)

pub less_none : (t u v : Fraction) → u ≡ zero_fraction → t ≡ t -ʳ u *ʳ v
less_none t u v e = minus_none t u v (ap (λ (x : Fraction). x *ʳ v) e ∙ zero-*ʳ v)

pub less_nothing : (t u v : Fraction) → v ≡ zero_fraction → t ≡ t -ʳ u *ʳ v
less_nothing t u v e = minus_none t u v (ap (λ (x : Fraction). u *ʳ x) e ∙ *ʳ-zero u)
