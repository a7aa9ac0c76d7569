use Rattle.std.proofs.Common.{◌∙◌, ap, lit≤}
use Rattle.fractions.specs.Fraction.{◌+ʳ◌}
use Rattle.fractions.proofs.Bounds.{sum_fits_below}
use Rattle.fractions.proofs.ratio.Ratio.add.Goals as goal

pub returns-in-Some-small : goal.returns-in-Some-small
returns-in-Some-small c =
    let x = c.args.self.now in
    let y = c.args.other.now in
    let p = rw c.in-Some.is at c.small.ensures in
    let q = rw c.in-Some-small.is at c.small-in-Some.ensures in
    (sum_fits_below x y 62 62 (lit≤ tt) p.0 q.0, c.sum.ensures ∙ (ap (λ f. f +ʳ c.in-Some-small.second) p.1 ∙ ap (λ f. x +ʳ f) q.1))
