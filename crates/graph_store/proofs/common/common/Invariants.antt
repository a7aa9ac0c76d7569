use Rattle.graph_store.proofs.CommonLemmas.{Met}
use Rattle.graph_store.proofs.common.common.Given as goal

abbrev pub invariant-loop-node : goal.invariant-loop-node
invariant-loop-node l = Met l.nodes l.others l.node-index l.place l.kept.items
