use Rattle.std.proofs.Common.{◌≡◌, ℕ, ℤ, pos, negsuc, neg_ℤ, ◌≤ℤ◌, ◌+ℤ◌, ◌-ℤ◌, ◌∙◌, sym, ap, subst, arith, to_z, of_z, true, false, ◌^◌, ◌≤◌}
use Rattle.std.specs.Int.{w128, int_max}
use Rattle.std.specs.Int.Signed.{lt_z}
use Rattle.std.proofs.lemmas.Int.{ints, clamps}
use Rattle.fractions.specs.Fraction.{Fraction, ◌<ʳ◌}
use Rattle.fractions.specs.Numeral.{limit}
use Rattle.fractions.proofs.Magnitude.{zero_below_limit}
use Rattle.fractions.proofs.Significant.{leading_small, AllDigits-append}
use Rattle.fractions.proofs.Value.{leading_is, facts_zero, facts_high, facts_low, facts_middle}
use Rattle.fractions.proofs.numeral.magnitude.Goals as goal

-- what the tests in the code say
above : (f : ℤ) → neg_ℤ (pos (10 ^ 21)) ≤ℤ f → f ≤ℤ pos (10 ^ 21) → lt_z (pos 17) (to_z w128 (of_z w128 f)) ≡ true → pos 18 ≤ℤ f
above f low high h = grind (arith, ints)

not_above : (f : ℤ) → neg_ℤ (pos (10 ^ 21)) ≤ℤ f → f ≤ℤ pos (10 ^ 21) → lt_z (pos 17) (to_z w128 (of_z w128 f)) ≡ false → f ≤ℤ pos 17
not_above f low high h = grind (arith, ints)

below : (f : ℤ) → neg_ℤ (pos (10 ^ 21)) ≤ℤ f → f ≤ℤ pos (10 ^ 21) → lt_z (to_z w128 (of_z w128 f)) (negsuc 15) ≡ true → f ≤ℤ neg_ℤ (pos 17)
below f low high h = grind (arith, ints)

not_below : (f : ℤ) → neg_ℤ (pos (10 ^ 21)) ≤ℤ f → f ≤ℤ pos (10 ^ 21) → lt_z (to_z w128 (of_z w128 f)) (negsuc 15) ≡ false → neg_ℤ (pos 16) ≤ℤ f
not_below f low high h = grind (arith, ints)

-- what it computes
lowest : (f : ℤ) (m : ℕ) → neg_ℤ (pos (10 ^ 21)) ≤ℤ f → f ≤ℤ pos (10 ^ 21) → m ≤ 16 → to_z w128 (of_z w128 (to_z w128 (of_z w128 (to_z w128 (of_z w128 f) +ℤ pos 1)) -ℤ to_z w128 m)) ≡ f +ℤ pos 1 -ℤ pos m
lowest f m low high h = omega (arith, ints)

rounding : (f p : ℤ) → neg_ℤ (pos (10 ^ 21)) ≤ℤ f → f ≤ℤ pos (10 ^ 21) → p ≡ int_max (to_z w128 (of_z w128 (to_z w128 (of_z w128 f) -ℤ pos 14))) (negsuc 14) → to_z w128 (of_z w128 p) ≡ int_max (f -ℤ pos 14) (negsuc 14)
rounding f p low high e =
    let plain : to_z w128 (of_z w128 (to_z w128 (of_z w128 f) -ℤ pos 14)) ≡ f -ℤ pos 14 = omega (arith, ints) in
    back p (f -ℤ pos 14) (omega (arith, ints)) (omega (arith, ints)) (e ∙ ap (λ z. int_max z (negsuc 14)) plain)
  where
    back : (p g : ℤ) → neg_ℤ (pos (10 ^ 22)) ≤ℤ g → g ≤ℤ pos (10 ^ 22) → p ≡ int_max g (negsuc 14) → to_z w128 (of_z w128 p) ≡ int_max g (negsuc 14)
    back p g low high e = omega (arith, ints, clamps)

room : (f : ℤ) (m : ℕ) → neg_ℤ (pos 16) ≤ℤ f → f ≤ℤ pos 17 → m ≤ 16 → (int_max (f -ℤ pos 14) (negsuc 14) -ℤ (f +ℤ pos 1 -ℤ pos m)) ≤ℤ pos 16
room f m low high h = omega (arith, ints, clamps)

pub returns-then-leading-eq0 : goal.returns-then-leading-eq0
returns-then-leading-eq0 c =
    let n = c.args.written.now in
    let l = c.leading_digits-leading in
    let e = facts_zero n l.result (leading_is _ n l.result c.written.view_is l.ensures) c.if-leading-eq0.true in
    (subst (λ (x : Fraction). x <ʳ limit) (sym c.zero.ensures) zero_below_limit, c.zero.ensures ∙ sym e)

pub returns-then-first-gt17 : goal.returns-then-first-gt17
returns-then-first-gt17 c =
    let n = c.args.written.now in
    let l = c.leading_digits-leading in
    let f = c.near_place-first in
    facts_high n l.result f.result
    (record { whole = c.requires.whole; part = c.requires.part; room = c.requires.room; leading = leading_is _ n l.result c.written.view_is l.ensures; near = f.ensures.value })
    c.if-leading-eq0.false (above f.result f.ensures.low f.ensures.high c.if-first-gt17.true)

pub returns-then-first-ltminus16 : goal.returns-then-first-ltminus16
returns-then-first-ltminus16 c =
    let n = c.args.written.now in
    let l = c.leading_digits-leading in
    let f = c.near_place-first in
    let e = facts_low n l.result f.result
    (record { whole = c.requires.whole; part = c.requires.part; room = c.requires.room; leading = leading_is _ n l.result c.written.view_is l.ensures; near = f.ensures.value })
    c.if-leading-eq0.false (below f.result f.ensures.low f.ensures.high c.if-first-ltminus16.true) in
    (subst (λ (x : Fraction). x <ʳ limit) (sym c.zero-then-first-ltminus16.ensures) zero_below_limit, c.zero-then-first-ltminus16.ensures ∙ sym e)

pub rounded_at-requires-clause-small : goal.rounded_at-requires-clause-small
rounded_at-requires-clause-small c =
    let n = c.args.written.now in
    let l = c.leading_digits-leading in
    leading_small _ l.result (AllDigits-append _ _ c.requires.whole c.requires.part) (leading_is _ n l.result c.written.view_is l.ensures)

pub rounded_at-requires-clause-near : goal.rounded_at-requires-clause-near
rounded_at-requires-clause-near c =
    let f = c.near_place-first in
    let m : c.min.result ≤ 16 = omega (arith, c.min.ensures) in
    rw (lowest f.result c.min.result f.ensures.low f.ensures.high m, rounding f.result c.max.result f.ensures.low f.ensures.high c.max.ensures.value)
    (room f.result c.min.result (not_below f.result f.ensures.low f.ensures.high c.if-first-ltminus16.false) (not_above f.result f.ensures.low f.ensures.high c.if-first-gt17.false) m)

pub returns : goal.returns
returns c =
    let n = c.args.written.now in
    let l = c.leading_digits-leading in
    let f = c.near_place-first in
    let m : c.min.result ≤ 16 = omega (arith, c.min.ensures) in
    facts_middle n l.result f.result _ _ c.rounded_at.result
    (record { whole = c.requires.whole; part = c.requires.part; room = c.requires.room; leading = leading_is _ n l.result c.written.view_is l.ensures; near = f.ensures.value })
    c.if-leading-eq0.false
    (not_below f.result f.ensures.low f.ensures.high c.if-first-ltminus16.false) (not_above f.result f.ensures.low f.ensures.high c.if-first-gt17.false)
    (lowest f.result c.min.result f.ensures.low f.ensures.high m ∙ ap (λ j. f.result +ℤ pos 1 -ℤ pos j) c.min.ensures)
    (rounding f.result c.max.result f.ensures.low f.ensures.high c.max.ensures.value)
    c.rounded_at.ensures
