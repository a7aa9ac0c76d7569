use Rattle.std.proofs.Common.{◌≡◌, ℕ, ◌<◌, ◌^◌, ℤ, pos, neg_ℤ, ◌+ℤ◌, ◌-ℤ◌, ◌≤ℤ◌, ◌∙◌, ap, sym, subst, arith, to_z, of_z, length}
use Rattle.std.specs.Int.{w128}
use Rattle.std.proofs.lemmas.Int.{ints}
use Rattle.fractions.specs.Numeral.{Numeral}
use Rattle.fractions.specs.Leading.{near_exponent}
use Rattle.fractions.proofs.numeral.near_place.Goals as goal

-- what the code computes
summed : (count len : ℕ) (e : ℤ) → count < 2 ^ 64 → len < 2 ^ 64 → neg_ℤ (pos (10 ^ 20)) ≤ℤ e → e ≤ℤ pos (10 ^ 20) → to_z w128 (of_z w128 (to_z w128 (of_z w128 (to_z w128 (of_z w128 (to_z w128 count -ℤ pos 1)) +ℤ to_z w128 (of_z w128 e))) -ℤ to_z w128 len)) ≡ pos count -ℤ pos 1 +ℤ e -ℤ pos len
summed count len e p q low high = omega (arith, ints)

bounded : (count len : ℕ) (e : ℤ) → count < 2 ^ 64 → len < 2 ^ 64 → neg_ℤ (pos (10 ^ 20)) ≤ℤ e → e ≤ℤ pos (10 ^ 20) → (neg_ℤ (pos (10 ^ 21)) ≤ℤ (pos count -ℤ pos 1 +ℤ e -ℤ pos len)) × ((pos count -ℤ pos 1 +ℤ e -ℤ pos len) ≤ℤ pos (10 ^ 21))
bounded count len e p q low high = (omega (arith, ints), omega (arith, ints))

pub returns : goal.returns
returns c =
    let e = c.near_exponent-exponent in
    let len = length c.written.inside.part.now in
    let same = summed c.args.count len e.result (omega arith) (omega (arith, c.written.told)) e.ensures.low e.ensures.high in
    let bounds = bounded c.args.count len e.result (omega arith) (omega (arith, c.written.told)) e.ensures.low e.ensures.high in
    record {
      value =
          same
          ∙ (ap (λ k. pos c.args.count -ℤ pos 1 +ℤ k -ℤ pos len) e.ensures.value
          ∙ ap (λ (n : Numeral). pos c.args.count -ℤ pos 1 +ℤ near_exponent c.args.written.now -ℤ pos (length n.part)) c.written.view_is);
      low = subst (λ (z : ℤ). neg_ℤ (pos (10 ^ 21)) ≤ℤ z) (sym same) bounds.0;
      high = subst (λ (z : ℤ). z ≤ℤ pos (10 ^ 21)) (sym same) bounds.1;
    }
