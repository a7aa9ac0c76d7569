use Rattle.graph_store.proofs.CommonLemmas.{KeptSoFar}
use Rattle.graph_store.proofs.common.kept_in_all.Given as goal

abbrev pub invariant-loop-number : goal.invariant-loop-number
invariant-loop-number l = KeptSoFar l.lists l.numbers l.fn.nodes.items l.number-index l.kept.items
