use Rattle.std.proofs.Common.{◌≡◌, ◌∙◌, ap, pos, ◌<ℤ◌, ◌≤ℤ◌, to_z, arith, lit<, subst, ◌*◌, ◌^◌, ◌<◌, ◌≤◌, ℕ}
use Rattle.std.specs.Int.{w128}
use Rattle.std.proofs.lemmas.Int.{ints, to_z_pos}
use Rattle.std.proofs.Math.Nat.{one-le-pow}
use Rattle.fractions.specs.Fraction.{frac, whole_fraction}
use Rattle.fractions.proofs.Magnitude.{times_low, times_small, times_large}
use Rattle.fractions.proofs.numeral.times_ten.Goals as goal

pub reduced-requires-clause-positive : goal.reduced-requires-clause-positive
reduced-requires-clause-positive c = rw c.pow.ensures (one-le-pow _ 10 (lit< tt))

pub returns-then-place-lt0 : goal.returns-then-place-lt0
returns-then-place-lt0 c =
    let negative : c.args.place <ℤ pos 0 = grind (arith, ints) in
    let plain : to_z w128 c.args.digits ≡ pos c.args.digits = to_z_pos w128 c.args.digits (omega (arith, c.requires.small)) in
    times_low c.args.digits _ c.args.place c.reduced.result c.requires.small negative (omega (arith, ints)) (c.reduced.ensures ∙ (ap (λ a. frac a c.pow.result) plain ∙ ap (frac (pos c.args.digits)) c.pow.ensures))

pub returns-then-value-lt-LIMIT : goal.returns-then-value-lt-LIMIT
returns-then-value-lt-LIMIT c =
    let nonnegative : pos 0 ≤ℤ c.args.place = grind (arith, ints) in
    let small : c.args.digits * c.pow-2.result < 10 ^ 18 = c.if-value-lt-LIMIT.true in
    let plain : to_z w128 (c.args.digits * c.pow-2.result) ≡ pos (c.args.digits * c.pow-2.result) = to_z_pos w128 _ (omega (arith, small)) in
    times_small c.args.digits _ c.args.place c.whole_number.result nonnegative (omega (arith, ints))
    (subst (λ (p : ℕ). c.args.digits * p < 10 ^ 18) c.pow-2.ensures small)
    (c.whole_number.ensures ∙ (ap whole_fraction plain ∙ ap (λ p. whole_fraction (pos (c.args.digits * p))) c.pow-2.ensures))

pub returns-else-value-lt-LIMIT : goal.returns-else-value-lt-LIMIT
returns-else-value-lt-LIMIT c =
    let nonnegative : pos 0 ≤ℤ c.args.place = grind (arith, ints) in
    times_large c.args.digits _ c.args.place nonnegative (omega (arith, ints)) (subst (λ (p : ℕ). 10 ^ 18 ≤ c.args.digits * p) c.pow-2.ensures c.if-value-lt-LIMIT.false)
