use Rattle.std.proofs.Common.{length, subst, sym}
use Rattle.graph_store.specs.Lists.{Rise}
use Rattle.graph_store.proofs.CommonLemmas.{among_below, are_common}
use Rattle.graph_store.proofs.common.in_all.Goals as goal

pub returns : goal.returns
returns c =
    let within = among_below (length c.args.lists.now) c.shortest-first.result c.args.numbers.now c.requires.within c.shortest-first.ensures in
    are_common c.args.lists.now c.shortest-first.result c.args.numbers.now c.in_ok-nodes.nodes.items c.in_ok-kept.kept.items c.shortest-first.ensures (subst Rise (sym c.in_ok-nodes.ensures) (c.requires.rise c.shortest-first.result within)) c.in_ok-nodes.ensures c.in_ok-kept.ensures
