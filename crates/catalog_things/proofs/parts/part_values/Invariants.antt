use Rattle.catalog_members.proofs.Listing.{WroteSoFar}
use Rattle.catalog_things.specs.Parts.{part_value}
use Rattle.catalog_things.proofs.parts.part_values.Given as goal

abbrev pub invariant-loop-part : goal.invariant-loop-part
invariant-loop-part l = WroteSoFar (part_value l.game l.index) l.parts l.part-index l.list.items
