use Rattle.std.proofs.Common.{◌≡◌, ℤ, ◌<◌, ◌^◌, ◌∙◌, ap, arith, to_z, of_z, unsigned_abs}
use Rattle.std.specs.Int.{w64}
use Rattle.std.proofs.lemmas.Int.{ints}
use Rattle.fractions.specs.Fracs.{frac_same}
use Rattle.fractions.proofs.Parts.{wrap_abs, wrap_same, frac_same_args}
use Rattle.fractions.proofs.ratio.Ratio.small.Goals as goal

low_bits : (k : ℤ) → unsigned_abs k < 2 ^ 62 → to_z w64 (of_z w64 k) ≡ k
low_bits k h = omega (arith, ints)

pub returns-then-denominator-lt-SMALL : goal.returns-then-denominator-lt-SMALL
returns-then-denominator-lt-SMALL c =
    let x = c.args.self.now in
    let n = c.numerator-numerator in
    let d = c.natural_denominator-denominator in
    let back = wrap_same n.result x.num n.ensures.narrow n.ensures.value in
    let abs : c.unsigned_abs.result ≡ unsigned_abs x.num = wrap_abs n.result x.num c.unsigned_abs.result c.unsigned_abs.ensures.value n.ensures.narrow n.ensures.value in
    let small : unsigned_abs x.num < 2 ^ 62 = omega (arith, abs, c.if-unsigned_abs-lt-SMALL.true) in (
      record { num_below = small; den_below = omega (arith, d.ensures.value, c.if-denominator-lt-SMALL.true) },
      frac_same_args (ap (λ k. to_z w64 (of_z w64 k)) back ∙ low_bits x.num small) d.ensures.value ∙ frac_same x,
    )
