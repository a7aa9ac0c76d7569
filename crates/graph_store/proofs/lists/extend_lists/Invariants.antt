use Rattle.graph_store.proofs.Listing.{ExtendedSoFar}
use Rattle.graph_store.proofs.lists.extend_lists.Given as goal

abbrev pub invariant-loop-thing : goal.invariant-loop-thing
invariant-loop-thing g l = ExtendedSoFar (g.K.Keys.about l.keys) l.first l.things l.initial.lists l.thing-index l.node l.lists
