use Rattle.graph_store.proofs.Walks.{ThoseSoFar}
use Rattle.graph_store.proofs.passing.push_those.Given as goal

abbrev pub invariant-loop-thing : goal.invariant-loop-thing
invariant-loop-thing g l = ThoseSoFar (g.P.Test.passes l.test) l.first l.things l.fn.nodes.items l.thing-index l.node l.nodes.items
