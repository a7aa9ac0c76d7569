use Rattle.catalog_members.proofs.Listing.{WroteSoFar}
use Rattle.catalog_things.specs.Parts.{good_value}
use Rattle.catalog_things.proofs.parts.good_values.Given as goal

abbrev pub invariant-loop-part : goal.invariant-loop-part
invariant-loop-part l = WroteSoFar (good_value l.game) l.goods l.part-index l.list.items
