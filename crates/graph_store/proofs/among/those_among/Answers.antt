use Rattle.std.proofs.Common.{arith}
use Rattle.graph_store.specs.Lists.{has_node}
use Rattle.graph_store.specs.Members.{those}
use Rattle.graph_store.proofs.AmongLemmas.{those_kept}
use Rattle.graph_store.proofs.CommonLemmas.{filtered_last}
use Rattle.graph_store.proofs.among.those_among.Goals as goal

pub returns : goal.returns
returns g c =
    those_kept (g.P.Test.passes c.args.test.now) c.args.first c.args.things.now c.args.nodes.now c.loop-node.kept.items c.requires.rise c.requires.all
    (filtered_last (λ n. has_node (those (g.P.Test.passes c.args.test.now) c.args.first c.args.things.now) n.0) c.args.nodes.now c.loop-node.node-index c.loop-node.kept.items (omega (arith, c.loop-node-test.false)) c.loop-node.invariant)
