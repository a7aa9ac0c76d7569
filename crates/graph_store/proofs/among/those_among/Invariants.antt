use Rattle.graph_store.specs.Lists.{has_node}
use Rattle.graph_store.specs.Members.{those}
use Rattle.graph_store.proofs.CommonLemmas.{FilteredSoFar}
use Rattle.graph_store.proofs.among.those_among.Given as goal

abbrev pub invariant-loop-node : goal.invariant-loop-node
invariant-loop-node g l = FilteredSoFar (λ n. has_node (those (g.P.Test.passes l.test) l.first l.things) n.0) l.nodes l.node-index l.kept.items
