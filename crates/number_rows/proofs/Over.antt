-- A fraction over a denominator that its own divides.
use Rattle.std.specs.Prelude.{◌≡◌, ℕ, ◌*◌, ◌/◌, ◌<◌, ◌^◌, ℤ, pos, ◌*ℤ◌, unsigned_abs}
use Rattle.std.specs.Int.{◌∣◌, w128, w64}
use Rattle.std.proofs.Common.{sym, ap, subst, ◌∙◌, arith, to_z, of_z}
use Rattle.std.proofs.Math.Nat.{mul-div_cancel', div-le_self}
use Rattle.std.proofs.lemmas.Int.{ints, to_z_pos, unsigned_abs-mul}
use Rattle.std.proofs.lemmas.Nat.{mul-lt}
use Rattle.fractions.specs.Fraction.{Fraction, frac, lower_pos}
use Rattle.fractions.specs.Fracs.{frac_same, frac_scale}
use Rattle.fractions.proofs.Parts.{whole_back, wrap_same, wrap_abs, den_plain}
use Rattle.number_rows.proofs.Lists.{back}

abbrev pub wrap128 : ℤ → ℤ
wrap128 k = to_z w128 (of_z w128 k)

abbrev pub wrap64 : ℤ → ℤ
wrap64 k = to_z w64 (of_z w64 k)

-- the code's denominator
pub own_is : (r : ℤ) (d : ℕ) → r ≡ pos d → unsigned_abs r < 2 ^ 127 → unsigned_abs (wrap128 r) ≡ d
own_is r d e h = ap unsigned_abs (wrap_same r (pos d) h e)

times_back : (r d : ℤ) (x : Fraction) (b : ℕ) → r ≡ x.num → unsigned_abs r < 2 ^ 127 → d ≡ pos x.den → unsigned_abs d < 2 ^ 127 → b < 2 ^ 62 → wrap128 r *ℤ to_z w128 (b / unsigned_abs (wrap128 d)) ≡ x.num *ℤ pos (b / x.den)
times_back r d x b er hr ed hd hb =
    let m : b / unsigned_abs (wrap128 d) ≡ b / x.den = ap (λ k. b / k) (own_is d x.den ed hd) in
    ap (λ k. k *ℤ to_z w128 (b / unsigned_abs (wrap128 d))) (wrap_same r x.num hr er)
    ∙ ap (λ k. x.num *ℤ k) (den_plain (b / unsigned_abs (wrap128 d)) (b / x.den) (omega (arith, div-le_self b (unsigned_abs (wrap128 d)), hb)) m)

pub over_is : (x : Fraction) (b : ℕ) → x.den ∣ b → 0 < b → frac (x.num *ℤ pos (b / x.den)) b ≡ x
over_is x b h p =
    ap (λ d. frac (x.num *ℤ pos (b / x.den)) d) (sym (mul-div_cancel' x.den h))
    ∙ (frac_scale x.num x.den (b / x.den) x.positive (lower_pos b x.den p h) ∙ frac_same x)

times_nothing : (n : ℕ) → pos 0 *ℤ pos n ≡ pos 0
times_nothing n = omega (arith, ints)

-- where the numerator is 0, so is what stands over the denominator
pub nothing_over : (x : Fraction) (r : ℤ) (b : ℕ) → r ≡ x.num → unsigned_abs r < 2 ^ 127 → x.den ∣ b → 0 < b → of_z w128 r ≡ 0 → x ≡ frac (pos 0) b
nothing_over x r b er hr db pb e =
    let n : x.num ≡ pos 0 = sym (wrap_same r x.num hr er) ∙ (ap (λ (k : ℕ). to_z w128 k) e ∙ to_z_pos w128 0 (omega arith)) in
    let z : x.num *ℤ pos (b / x.den) ≡ pos 0 = ap (λ (k : ℤ). k *ℤ pos (b / x.den)) n ∙ times_nothing (b / x.den) in
    sym (ap (λ (t : ℤ). frac t b) (sym z) ∙ over_is x b db pb)

pub top_is : (x : Fraction) (r d : ℤ) (b u v : ℕ) → r ≡ x.num → unsigned_abs r < 2 ^ 127 → d ≡ pos x.den → unsigned_abs d < 2 ^ 127 → x.den ∣ b → 0 < b → b < 2 ^ 62 → u ≡ unsigned_abs (wrap128 r) → u < 2 ^ 62 → v ≡ unsigned_abs (wrap128 (wrap128 r *ℤ to_z w128 (b / unsigned_abs (wrap128 d)))) → v < 2 ^ 62 →
    (x ≡ frac (wrap64 (wrap128 (wrap128 r *ℤ to_z w128 (b / unsigned_abs (wrap128 d))))) b) × (unsigned_abs (wrap64 (wrap128 (wrap128 r *ℤ to_z w128 (b / unsigned_abs (wrap128 d))))) < 2 ^ 62)
top_is x r d b u v er hr ed hd db pb hb eu hu ev hv =
    let p : wrap128 r *ℤ to_z w128 (b / unsigned_abs (wrap128 d)) ≡ x.num *ℤ pos (b / x.den) = times_back r d x b er hr ed hd hb in
    let n : unsigned_abs x.num < 2 ^ 62 = omega (arith, wrap_abs r x.num u eu hr er, hu) in
    let k : b / x.den < 2 ^ 62 = omega (arith, div-le_self b x.den, hb) in
    let size : unsigned_abs (x.num *ℤ pos (b / x.den)) < 2 ^ 62 * 2 ^ 62 = subst (λ (m : ℕ). m < 2 ^ 62 * 2 ^ 62) (sym (unsigned_abs-mul x.num (pos (b / x.den)))) (mul-lt _ _ _ _ n k) in
    let w : wrap128 (wrap128 r *ℤ to_z w128 (b / unsigned_abs (wrap128 d))) ≡ x.num *ℤ pos (b / x.den) = ap wrap128 p ∙ whole_back (x.num *ℤ pos (b / x.den)) (omega (arith, size)) in
    let small : unsigned_abs (x.num *ℤ pos (b / x.den)) < 2 ^ 62 = omega (arith, ev, hv, ap unsigned_abs w) in
    let z : wrap64 (wrap128 (wrap128 r *ℤ to_z w128 (b / unsigned_abs (wrap128 d)))) ≡ x.num *ℤ pos (b / x.den) = ap wrap64 w ∙ back (x.num *ℤ pos (b / x.den)) (omega (arith, small)) in (
      sym (ap (λ t. frac t b) z ∙ over_is x b db pb),
      subst (λ (t : ℤ). unsigned_abs t < 2 ^ 62) (sym z) small,
    )
