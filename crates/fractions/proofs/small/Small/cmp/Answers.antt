use Rattle.std.proofs.Common.{◌∙◌, arith}
use Rattle.fractions.proofs.Parts.{whole_back}
use Rattle.fractions.proofs.SmallParts.{cmp_result, cmp_by_cross}
use Rattle.fractions.proofs.small.Small.cmp.Goals as goal

pub returns : goal.returns
returns c =
    let p = c.small_multiple-first in
    let q = c.small_multiple-second in
    let both = cmp_result c.args.self.now c.args.other.now _ _ _ _ _ _ c.self.invariant c.self.view_is c.other.invariant c.other.view_is p.ensures.value q.ensures.value in
    cmp_by_cross c.args.self.now c.args.other.now _ _ c.cmp.result (whole_back p.result (omega (arith, p.ensures.small)) ∙ both.0) (whole_back q.result (omega (arith, q.ensures.small)) ∙ both.1) c.cmp.ensures
