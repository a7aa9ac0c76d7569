use Rattle.std.proofs.Common.{[]}
use Rattle.graph_store.specs.Members.{node}
use Rattle.graph_store.proofs.Walks.{Appended}
use Rattle.graph_store.proofs.unions.in_order.Given as goal

abbrev pub invariant-loop-number : goal.invariant-loop-number
invariant-loop-number l = Appended node [] l.all l.number-index l.nodes.items
