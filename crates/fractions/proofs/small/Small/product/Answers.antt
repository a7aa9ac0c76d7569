use Rattle.std.proofs.Common.{◌∙◌}
use Rattle.fractions.proofs.SmallParts.{product_result}
use Rattle.fractions.proofs.small.Small.product.Goals as goal

pub stored-requires : goal.stored-requires
stored-requires c =
    (product_result c.args.self.now c.args.other.now _ _ _ _ _ _ _ _ _ _ _ c.self.invariant c.self.view_is c.other.invariant c.other.view_is c.unsigned_abs.ensures.value c.small_divisor-left.ensures.exact c.unsigned_abs-2.ensures.value c.small_divisor-right.ensures.exact
    c.small_quotient.ensures.value c.small_quotient.ensures.small c.small_quotient-2.ensures.value c.small_quotient-2.ensures.small c.small_product-top.ensures.value c.small_product-top.ensures.small).stored

pub returns : goal.returns
returns c =
    c.stored.ensures
    ∙ (product_result c.args.self.now c.args.other.now _ _ _ _ _ _ _ _ _ _ _ c.self.invariant c.self.view_is c.other.invariant c.other.view_is c.unsigned_abs.ensures.value c.small_divisor-left.ensures.exact c.unsigned_abs-2.ensures.value c.small_divisor-right.ensures.exact
    c.small_quotient.ensures.value c.small_quotient.ensures.small c.small_quotient-2.ensures.value c.small_quotient-2.ensures.small c.small_product-top.ensures.value c.small_product-top.ensures.small).same
