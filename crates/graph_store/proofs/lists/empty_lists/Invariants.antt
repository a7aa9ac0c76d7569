use Rattle.graph_store.proofs.Listing.{EmptySoFar}
use Rattle.graph_store.proofs.lists.empty_lists.Given as goal

abbrev pub invariant-loop-number : goal.invariant-loop-number
invariant-loop-number l = EmptySoFar l.number l.lists.items
