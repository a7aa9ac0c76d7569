use Rattle.std.proofs.Common.{◌≡◌, ◌++◌, drop}
use Rattle.std.specs.List.{filter_map}
use Rattle.fluid_variants.specs.Temperatures.{product_made}
use Rattle.fluid_variants.proofs.made.put_products.Given as goal

abbrev pub invariant-loop-product : goal.invariant-loop-product
invariant-loop-product l = l.list.items ++ filter_map (product_made l.game) (drop l.product-index l.products) ≡ l.initial.list.items ++ filter_map (product_made l.game) l.products
