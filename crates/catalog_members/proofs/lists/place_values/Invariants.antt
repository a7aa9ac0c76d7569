use Rattle.catalog_members.specs.Members.{place_value}
use Rattle.catalog_members.proofs.Listing.{WroteSoFar}
use Rattle.catalog_members.proofs.lists.place_values.Given as goal

abbrev pub invariant-loop-place : goal.invariant-loop-place
invariant-loop-place l = WroteSoFar place_value l.places l.place-index l.list.items
