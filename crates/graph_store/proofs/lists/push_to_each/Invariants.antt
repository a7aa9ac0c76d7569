use Rattle.graph_store.proofs.Listing.{PushedSoFar}
use Rattle.graph_store.proofs.lists.push_to_each.Given as goal

abbrev pub invariant-loop-number : goal.invariant-loop-number
invariant-loop-number l = PushedSoFar l.numbers l.node l.initial.lists l.number-index l.lists
