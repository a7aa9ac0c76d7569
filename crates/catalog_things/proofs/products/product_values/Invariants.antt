use Rattle.catalog_members.proofs.Listing.{WroteSoFar}
use Rattle.catalog_things.specs.Parts.{product_value}
use Rattle.catalog_things.proofs.products.product_values.Given as goal

abbrev pub invariant-loop-product : goal.invariant-loop-product
invariant-loop-product l = WroteSoFar (product_value l.game) l.products l.product-index l.list.items
