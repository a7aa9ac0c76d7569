use Rattle.graph_store.proofs.Walks.{Appended}
use Rattle.graph_store.proofs.unions.push_numbers.Given as goal

abbrev pub invariant-loop-node : goal.invariant-loop-node
invariant-loop-node l = Appended (λ n. n.0) l.initial.numbers.items l.nodes l.node-index l.numbers.items
