use Rattle.depend_index.proofs.CoolestLemmas.{SortedSoFar}
use Rattle.depend_index.proofs.temperatures.sorted_lists.Given as goal

abbrev pub invariant-loop-list : goal.invariant-loop-list
invariant-loop-list l = SortedSoFar l.fluids l.first l.lists l.list-index l.all.items
