-- The tests of the steps decide the limits of fractions.
use Rattle.std.specs.Prelude.{◌≡◌, ◌≢◌, ℕ, ◌<◌, ◌^◌, Bool, true, false, ◌&&◌, ◌+ℤ◌, ◌*ℤ◌, pos, nat_lt, Ok, Err}
use Rattle.std.specs.Bool.{Decides}
use Rattle.std.proofs.Common.{refl, sym, ap, subst, arith}
use Rattle.std.proofs.lemmas.Bool.Decides.{nat_tests}
use Rattle.std.proofs.Math.IntN.{nat_abs}
use Rattle.std.specs.Cmp.{int_cmp_is}
use Rattle.std.specs.Ordering.{MatchOrdering}
use Rattle.std.specs.declared.cmp.Ordering.{Ordering}
use Rattle.fractions.specs.Fraction.{Fraction, zero_fraction, ◌*ʳ◌, ◌<ʳ◌, ◌≤ʳ◌}
use Rattle.fractions.specs.Limits.{IsNarrow, SumFits, lcm, num_over}
use Rattle.fractions.proofs.Compare.{match_map}
use Rattle.fractions.proofs.Order.{<ʳ_not_≤ʳ, ≤ʳ_refl}
use Rattle.game_types.specs.Steps.{is_narrow, do_fit, formed, multiplied, at_least, greater}
use Rattle.fractions.specs.Fraction.{whole_fraction}
use Rattle.fractions.proofs.Order.{positive_frac}
use Rattle.std.specs.Prelude.{ℤ, negsuc, ◌<ℤ◌}
use Rattle.std.proofs.lemmas.Int.{ints}

four : (a b c d k : ℕ) → (nat_lt a k && nat_lt b k && nat_lt c k && nat_lt d k) ≡ true → (a < k) × (b < k) × (c < k) × (d < k)
four a b c d k h = (grind (arith, nat_tests), grind (arith, nat_tests), grind (arith, nat_tests), grind (arith, nat_tests))

back : (a b c d k : ℕ) → a < k → b < k → c < k → d < k → (nat_lt a k && nat_lt b k && nat_lt c k && nat_lt d k) ≡ true
back a b c d k p q r s = grind (arith, nat_tests)

two : (a b k : ℕ) → (nat_lt a k && nat_lt b k) ≡ true → (a < k) × (b < k)
two a b k h = (grind (arith, nat_tests), grind (arith, nat_tests))

two_back : (a b k : ℕ) → a < k → b < k → (nat_lt a k && nat_lt b k) ≡ true
two_back a b k p q = grind (arith, nat_tests)

pub narrow_decided : (x : Fraction) → Decides (is_narrow x) (IsNarrow x)
unfolding is_narrow
narrow_decided x = (
  λ h. let e : (nat_abs x.num < 2 ^ 127) × (x.den < 2 ^ 127) = two (nat_abs x.num) x.den (2 ^ 127) h in record { narrow_num = e.0; narrow_den = e.1 },
  λ h. two_back (nat_abs x.num) x.den (2 ^ 127) h.narrow_num h.narrow_den,
)

pub fit_decided : (x y : Fraction) → Decides (do_fit x y) (SumFits x y)
unfolding do_fit
fit_decided x y = (
  λ h.
      let e : (lcm x.den y.den < 2 ^ 127) × (nat_abs (num_over x (lcm x.den y.den)) < 2 ^ 127) × (nat_abs (num_over y (lcm x.den y.den)) < 2 ^ 127) × (nat_abs (num_over x (lcm x.den y.den) +ℤ num_over y (lcm x.den y.den)) < 2 ^ 127)
      = four (lcm x.den y.den) (nat_abs (num_over x (lcm x.den y.den))) (nat_abs (num_over y (lcm x.den y.den))) (nat_abs (num_over x (lcm x.den y.den) +ℤ num_over y (lcm x.den y.den))) (2 ^ 127) h in
      record { common = e.0; first = e.1; second = e.2; sum = e.3 },
  λ h. back (lcm x.den y.den) (nat_abs (num_over x (lcm x.den y.den))) (nat_abs (num_over y (lcm x.den y.den))) (nat_abs (num_over x (lcm x.den y.den) +ℤ num_over y (lcm x.den y.den))) (2 ^ 127) h.common h.first h.second h.sum,
)

-- what a call that answers exactly within the limits says of the step
pub formed_ok : (step : ℕ) (fits : Bool) {P : Type 0} (x y : Fraction) → Decides fits P → P → y ≡ x → Ok y ≡ formed step fits x
unfolding formed
formed_ok step true x y d p e = ap (λ (z : Fraction). Ok z) e
formed_ok step false x y d p e = absurd (let h : false ≡ true = d.1 p in cc)

pub formed_err : (step : ℕ) (fits : Bool) {P : Type 0} (x : Fraction) → Decides fits P → ¬ P → Err (record { step = step }) ≡ formed step fits x
unfolding formed
formed_err step true x d p = absurd (p (d.0 refl))
formed_err step false x d p = refl

pub positive_ne_zero : (x : Fraction) → zero_fraction <ʳ x → x ≢ zero_fraction
positive_ne_zero x h e = <ʳ_not_≤ʳ zero_fraction x h (subst (λ (z : Fraction). z ≤ʳ zero_fraction) (sym e) (≤ʳ_refl zero_fraction))

pub at_least_is : (floor x : Fraction) (r : Ordering) → MatchOrdering r (floor <ʳ x) (floor ≡ x) (x <ʳ floor) → at_least floor x ≡ greater r floor x
unfolding at_least
at_least_is floor x r m =
    ap (λ (o : Ordering). greater o floor x)
    (sym (int_cmp_is _ _ r (match_map r (λ h. h.cross) (λ e. subst (λ (z : Fraction). floor.num *ℤ pos z.den ≡ z.num *ℤ pos floor.den) e refl) (λ h. h.cross) m)))

formed_value : (step : ℕ) (fits : Bool) (x y : Fraction) → Ok y ≡ formed step fits x → y ≡ x
unfolding formed
formed_value step true x y e = cc
formed_value step false x y e = absurd (cc)

-- the value that a step gives
pub multiplied_value : (step : ℕ) (x y z : Fraction) → Ok z ≡ multiplied step x y → z ≡ x *ʳ y
unfolding multiplied
multiplied_value step x y z e = formed_value step (is_narrow (x *ʳ y)) (x *ʳ y) z e

pub positive_whole : (n : ℕ) → 0 < n → zero_fraction <ʳ whole_fraction (pos n)
unfolding whole_fraction
positive_whole n h = positive_frac (pos n) 1 (omega arith) (omega (arith, ints))
