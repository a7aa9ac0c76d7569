use Rattle.graph_store.proofs.Listing.{NoneSoFar}
use Rattle.graph_store.proofs.lists.end_of_keys.Given as goal

abbrev pub invariant-loop-thing : goal.invariant-loop-thing
invariant-loop-thing g l = NoneSoFar (g.K.Keys.about l.keys) l.things l.thing-index l.end
