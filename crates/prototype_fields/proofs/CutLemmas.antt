-- Hundredths of moderate numbers fit 64 bits.
use Rattle.std.specs.Prelude.{◌≡◌, ℕ, ◌*◌, ◌^◌, ◌<◌, ◌≤◌, false, ℤ, pos, negsuc, ◌*ℤ◌, ◌<ℤ◌, ◌≤ℤ◌, int_div, unsigned_abs}
use Rattle.std.specs.Int.{w64, w128}
use Rattle.std.specs.Int.RustNames.{int_lt}
use Rattle.std.proofs.Common.{sym, ap, subst, ◌∙◌, arith, to_z, of_z, FitsSigned}
use Rattle.std.proofs.Math.Nat.{div-le_of_le-mul}
use Rattle.std.proofs.lemmas.Int.{ints}
use Rattle.fractions.specs.Fraction.{Fraction, whole_fraction, nat_abs-int_div}
use Rattle.fractions.proofs.Ceiling.{num-whole, den-whole}
use Rattle.fractions.proofs.Parts.{wrap, whole_back}
use Rattle.prototype_fields.specs.Numbers.{is_less}

-- ---- the numbers
scaled_abs : (n : ℤ) → unsigned_abs (n *ℤ pos 100) ≡ unsigned_abs n * 100
scaled_abs n = omega (arith, ints)

room : (n : ℤ) → unsigned_abs n < 2 ^ 120 → unsigned_abs (n *ℤ pos 100) < 2 ^ 127
room n h = omega (arith, scaled_abs n, h)

quotient_small : (n d : ℤ) → pos 0 <ℤ d → unsigned_abs n ≤ 1000000 * unsigned_abs d → unsigned_abs (int_div (n *ℤ pos 100) d) ≤ 10 ^ 8
quotient_small n (pos m) p h =
    let l : unsigned_abs (n *ℤ pos 100) ≤ m * 10 ^ 8 = omega (arith, scaled_abs n, h) in
    subst (λ (k : ℕ). k ≤ 10 ^ 8) (sym (nat_abs-int_div (n *ℤ pos 100) m)) (div-le_of_le-mul m l)
quotient_small n (negsuc m) p h = absurd (omega (arith, ints))

back64 : (q : ℤ) → unsigned_abs q ≤ 10 ^ 8 → to_z w64 (of_z w64 q) ≡ q
back64 q h = omega (arith, ints)

pub cut_value : (n d : ℤ) → unsigned_abs n < 2 ^ 120 → pos 0 <ℤ d → unsigned_abs d < 2 ^ 127 → unsigned_abs n ≤ 1000000 * unsigned_abs d → to_z w64 (of_z w64 (wrap (int_div (wrap (wrap n *ℤ pos 100)) (wrap d)))) ≡ int_div (n *ℤ pos 100) d
cut_value n d small p narrow h =
    let q : ℤ = int_div (n *ℤ pos 100) d in
    let k : unsigned_abs q ≤ 10 ^ 8 = quotient_small n d p h in
    let m : wrap (n *ℤ pos 100) ≡ n *ℤ pos 100 = whole_back (n *ℤ pos 100) (room n small) in
    let top : wrap (wrap n *ℤ pos 100) ≡ n *ℤ pos 100 = ap (λ i. wrap (i *ℤ pos 100)) (whole_back n (omega (arith, small))) ∙ m in
    ap (λ i. to_z w64 (of_z w64 (wrap (int_div i (wrap d))))) top
    ∙ (ap (λ i. to_z w64 (of_z w64 (wrap (int_div (n *ℤ pos 100) i)))) (whole_back d narrow) ∙ (ap (λ i. to_z w64 (of_z w64 i)) (whole_back q (omega (arith, k))) ∙ back64 q k))

pub fits_abs : (d : ℤ) → FitsSigned w128 d → pos 0 <ℤ d → unsigned_abs d < 2 ^ 127
fits_abs d f p = omega (arith, ints, f)

-- ---- what is not less
not_above : (a b : ℤ) (d : ℕ) → int_lt (pos 1000000 *ℤ pos d) (a *ℤ pos 1) ≡ false → a ≤ℤ pos (1000000 * d)
not_above a b d h = grind (arith, ints)

not_below : (a : ℤ) (d : ℕ) → int_lt (a *ℤ pos 1) (negsuc 999999 *ℤ pos d) ≡ false → (negsuc 999999 *ℤ pos d) ≤ℤ a
not_below a d h = grind (arith, ints)

between : (a : ℤ) (d : ℕ) → a ≤ℤ pos (1000000 * d) → (negsuc 999999 *ℤ pos d) ≤ℤ a → unsigned_abs a ≤ 1000000 * d
between a d h k = omega (arith, ints)

pub moderate : (x : Fraction) → is_less (whole_fraction (pos 1000000)) x ≡ false → is_less x (whole_fraction (negsuc 999999)) ≡ false → unsigned_abs x.num ≤ 1000000 * x.den
moderate x h k =
    let above : int_lt (pos 1000000 *ℤ pos x.den) (x.num *ℤ pos 1) ≡ false =
    ap (λ n. int_lt (n *ℤ pos x.den) (x.num *ℤ pos 1)) (sym (num-whole (pos 1000000))) ∙ (ap (λ d. int_lt ((whole_fraction (pos 1000000)).num *ℤ pos x.den) (x.num *ℤ pos d)) (sym (den-whole (pos 1000000))) ∙ h) in
    let beneath : int_lt (x.num *ℤ pos 1) (negsuc 999999 *ℤ pos x.den) ≡ false =
    ap (λ n. int_lt (x.num *ℤ pos 1) (n *ℤ pos x.den)) (sym (num-whole (negsuc 999999))) ∙ (ap (λ d. int_lt (x.num *ℤ pos d) ((whole_fraction (negsuc 999999)).num *ℤ pos x.den)) (sym (den-whole (negsuc 999999))) ∙ k) in
    between x.num x.den (not_above x.num x.num x.den above) (not_below x.num x.den beneath)

pub moderate_parts : (x : Fraction) (a b : ℤ) → a ≡ x.num → b ≡ pos x.den → unsigned_abs a < 2 ^ 127 → unsigned_abs b < 2 ^ 127 → unsigned_abs x.num ≤ 1000000 * x.den → unsigned_abs (wrap a) ≤ 1000000 * unsigned_abs (wrap b)
moderate_parts x a b ea eb na nb h = rw (whole_back a na, whole_back b nb) (rw (ea, eb) h)
