use Rattle.std.proofs.Common.{◌∙◌, ◌*ℤ◌}
use Rattle.number_rows.proofs.Wider.{apart_is, product_plain}
use Rattle.number_rows.proofs.tops.long_combined.Goals as goal

pub returns-clause-value : goal.returns-clause-value
returns-clause-value c =
    (apart_is c.long_product-first.result c.long_product-second.result (c.args.top *ℤ c.args.scale) (c.args.other *ℤ c.args.factor)
    (c.long_product-first.ensures.value ∙ product_plain c.args.top c.args.scale c.requires.top c.requires.scale)
    (c.long_product-second.ensures.value ∙ product_plain c.args.other c.args.factor c.requires.other c.requires.factor)
    c.long_product-first.ensures.small c.long_product-second.ensures.small).value

pub returns-clause-small : goal.returns-clause-small
returns-clause-small c =
    (apart_is c.long_product-first.result c.long_product-second.result (c.args.top *ℤ c.args.scale) (c.args.other *ℤ c.args.factor)
    (c.long_product-first.ensures.value ∙ product_plain c.args.top c.args.scale c.requires.top c.requires.scale)
    (c.long_product-second.ensures.value ∙ product_plain c.args.other c.args.factor c.requires.other c.requires.factor)
    c.long_product-first.ensures.small c.long_product-second.ensures.small).small
