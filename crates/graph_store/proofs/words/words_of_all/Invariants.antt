use Rattle.graph_store.proofs.WordLemmas.{WordsSoFar}
use Rattle.graph_store.proofs.words.words_of_all.Given as goal

abbrev pub invariant-loop-list : goal.invariant-loop-list
invariant-loop-list l = WordsSoFar l.count l.first l.lists l.list-index l.all.items
