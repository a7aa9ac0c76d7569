use Rattle.std.proofs.Common.{◌∙◌}
use Rattle.fractions.proofs.Lowest.{reduced_parts}
use Rattle.fractions.proofs.arithmetic.reduced.Goals as goal

pub stored-requires : goal.stored-requires
stored-requires c =
    (reduced_parts c.args.top c.divided.result c.args.bottom c.unsigned_abs.result c.greatest_common_divisor-common.result c.requires.positive c.requires.narrow_top c.requires.narrow_bottom c.unsigned_abs.ensures.value c.greatest_common_divisor-common.ensures.exact c.divided.ensures).0

pub returns : goal.returns
returns c =
    c.stored.ensures
    ∙ (reduced_parts c.args.top c.divided.result c.args.bottom c.unsigned_abs.result c.greatest_common_divisor-common.result c.requires.positive c.requires.narrow_top c.requires.narrow_bottom c.unsigned_abs.ensures.value c.greatest_common_divisor-common.ensures.exact c.divided.ensures).1
