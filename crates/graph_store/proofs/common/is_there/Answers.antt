use Rattle.std.proofs.Common.{refl, arith, get_or}
use Rattle.std.specs.Prelude.{◌==◌}
use Rattle.graph_store.specs.Members.{node}
use Rattle.graph_store.proofs.CommonLemmas.{none_there, one_there, number_is}
use Rattle.graph_store.proofs.Walks.{at_self}
use Rattle.graph_store.proofs.common.is_there.Goals as goal

pub returns-then-place-nodes : goal.returns-then-place-nodes
returns-then-place-nodes c =
    let nodes = c.args.nodes.now in
    let place = c.args.place in
    let found = get_or nodes place (node 0) in
    one_there nodes c.args.node.0 place found.0 c.requires.rise c.requires.place c.if-place-nodes.true (number_is nodes place found c.if-place-nodes.true (at_self nodes place (node 0) c.if-place-nodes.true)) (found.0 == c.args.node.0) refl

pub returns-else-place-nodes : goal.returns-else-place-nodes
returns-else-place-nodes c = none_there c.args.nodes.now c.args.node.0 c.args.place c.requires.place (omega (arith, c.if-place-nodes.false))
