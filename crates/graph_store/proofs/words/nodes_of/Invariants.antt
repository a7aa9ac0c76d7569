use Rattle.graph_store.proofs.WordLemmas.{WordsListed}
use Rattle.graph_store.proofs.words.nodes_of.Given as goal

abbrev pub invariant-loop-place : goal.invariant-loop-place
invariant-loop-place l = WordsListed l.first l.words l.place l.nodes.items
