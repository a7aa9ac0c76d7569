use Rattle.graph_store.proofs.WordLemmas.{KeptBits}
use Rattle.graph_store.proofs.words.common_of_all.Given as goal

abbrev pub invariant-loop-number : goal.invariant-loop-number
invariant-loop-number l = KeptBits l.words l.numbers l.number-index l.kept.items
