use Rattle.graph_store.proofs.WordLemmas.{WordSoFar}
use Rattle.graph_store.proofs.words.push_bits.Given as goal

abbrev pub invariant-loop-bit : goal.invariant-loop-bit
invariant-loop-bit l = WordSoFar l.first l.word l.fn.nodes.items l.bit l.nodes.items
