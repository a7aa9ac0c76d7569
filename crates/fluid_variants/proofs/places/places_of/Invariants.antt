use Rattle.fluid_variants.specs.Contents.{contents}
use Rattle.fluid_variants.proofs.PlaceLemmas.{PlacesSoFar}
use Rattle.fluid_variants.proofs.places.places_of.Given as goal

abbrev pub invariant-loop-list : goal.invariant-loop-list
invariant-loop-list l = PlacesSoFar l.items (contents l.lists) l.list-index l.places.items l.place
