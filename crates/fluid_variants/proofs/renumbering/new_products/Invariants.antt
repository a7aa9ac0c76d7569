use Rattle.std.proofs.Common.{◌≡◌, ◌++◌, drop, map}
use Rattle.fluid_variants.specs.Records.{new_product}
use Rattle.fluid_variants.proofs.renumbering.new_products.Given as goal

abbrev pub invariant-loop-product : goal.invariant-loop-product
invariant-loop-product g l =
    l.new.items ++ map (new_product l.game (record { taken = g.R.Renumber.taken_as l.by; given = g.R.Renumber.given_as l.by })) (drop l.product-index l.products)
    ≡ map (new_product l.game (record { taken = g.R.Renumber.taken_as l.by; given = g.R.Renumber.given_as l.by })) l.products
