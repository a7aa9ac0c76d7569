use Rattle.std.proofs.Common.{◌∙◌}
use Rattle.fractions.proofs.SmallParts.{sum_result}
use Rattle.fractions.proofs.small.Small.sum.Goals as goal

pub stored-requires : goal.stored-requires
stored-requires c =
    (sum_result c.args.self.now c.args.other.now _ _ _ _ _ _ _ _ _ _ c.self.invariant c.self.view_is c.other.invariant c.other.view_is c.small_divisor-common.ensures.exact c.small_multiple.ensures.value c.small_multiple.ensures.small
    c.small_multiple-2.ensures.value c.small_multiple-2.ensures.small c.unsigned_abs.ensures.value c.shared_divisor-shared.ensures.exact c.divided.ensures).stored

pub returns : goal.returns
returns c =
    c.stored.ensures
    ∙ (sum_result c.args.self.now c.args.other.now _ _ _ _ _ _ _ _ _ _ c.self.invariant c.self.view_is c.other.invariant c.other.view_is c.small_divisor-common.ensures.exact c.small_multiple.ensures.value c.small_multiple.ensures.small
    c.small_multiple-2.ensures.value c.small_multiple-2.ensures.small c.unsigned_abs.ensures.value c.shared_divisor-shared.ensures.exact c.divided.ensures).same
