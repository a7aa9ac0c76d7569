use Rattle.std.proofs.Common.{◌≡◌, ◌∙◌, ap, sym, subst, arith, lit<, pos, ℤ, ◌^◌, ◌≤◌, ◌<◌, ℕ, unsigned_abs}
use Rattle.std.specs.Int.{w128}
use Rattle.std.proofs.Math.Nat.{pow-le-pow_right}
use Rattle.std.proofs.lemmas.Int.{ints, fits_signed_from_abs}
use Rattle.fractions.specs.Fraction.{Fraction, whole_fraction, ◌*ʳ◌}
use Rattle.fractions.specs.Limits.{IsNarrow}
use Rattle.fractions.proofs.Parts.{wrap_same}
use Rattle.energy_units.proofs.Scale.{prefixed_narrow, value_narrow}
use Rattle.energy_units.proofs.scaled.Goals as goal

ten_small : (p : ℕ) → p ≤ 24 → 10 ^ p < 2 ^ 127
ten_small p h = let l : 10 ^ p ≤ 10 ^ 24 = pow-le-pow_right (lit< tt) h in omega (arith, l)

pub pow-requires : goal.pow-requires
pow-requires c = fits_signed_from_abs w128 (pos (10 ^ c.args.power)) (ten_small c.args.power c.requires.power)

pub returns-in_default : goal.returns-in_default
returns-in_default c h =
    let e : c.pow.result ≡ pos (10 ^ c.args.power) = c.pow.ensures in
    let n : unsigned_abs c.pow.result < 2 ^ 127 = subst (λ (z : ℤ). unsigned_abs z < 2 ^ 127) (sym e) (ten_small c.args.power c.requires.power) in
    let w : c.whole_number.result ≡ whole_fraction (pos (10 ^ c.args.power)) = c.whole_number.ensures ∙ ap whole_fraction (wrap_same c.pow.result _ n e) in
    c.in_default.ensures (subst (λ (y : Fraction). IsNarrow (c.args.number.now *ʳ y)) (sym w) (prefixed_narrow c.args.number.now c.args.power c.requires.short h))

pub returns-in-Err : goal.returns-in-Err
returns-in-Err c h =
    let e : c.pow.result ≡ pos (10 ^ c.args.power) = c.pow.ensures in
    let n : unsigned_abs c.pow.result < 2 ^ 127 = subst (λ (z : ℤ). unsigned_abs z < 2 ^ 127) (sym e) (ten_small c.args.power c.requires.power) in
    let w : c.whole_number.result ≡ whole_fraction (pos (10 ^ c.args.power)) = c.whole_number.ensures ∙ ap whole_fraction (wrap_same c.pow.result _ n e) in
    let p : c.in-Ok.prefixed ≡ c.args.number.now *ʳ whole_fraction (pos (10 ^ c.args.power)) = c.in-Ok.ensures.1 ∙ ap (λ y. c.args.number.now *ʳ y) w in
    let f : c.whole.result ≡ whole_fraction (pos c.args.factor) = c.whole.ensures ∙ ap whole_fraction (omega (arith, ints)) in
    c.in-Err.ensures
    (subst (λ (y : Fraction). IsNarrow (y *ʳ c.whole.result)) (sym p)
    (subst (λ (y : Fraction). IsNarrow (c.args.number.now *ʳ whole_fraction (pos (10 ^ c.args.power)) *ʳ y)) (sym f) (value_narrow c.args.number.now c.args.power c.args.factor c.requires.short c.requires.factor h)))
