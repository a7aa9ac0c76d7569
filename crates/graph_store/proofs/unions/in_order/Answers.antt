use Rattle.std.proofs.Common.{◌∙◌, [], ap, arith, map}
use Rattle.graph_store.specs.Members.{node}
use Rattle.graph_store.proofs.OrderLemmas.{held_in_order}
use Rattle.graph_store.proofs.Walks.{appended_all}
use Rattle.graph_store.proofs.unions.in_order.Goals as goal

pub returns : goal.returns
returns c = held_in_order c.args.numbers.items c.distinct-sorted.result.items c.loop-number.nodes.items c.distinct-sorted.ensures.rises c.distinct-sorted.ensures.same
    (appended_all node [] c.as_slice-all.result.now c.loop-number.number-index c.loop-number.nodes.items (omega (arith, c.loop-number-test.false)) c.loop-number.invariant ∙ ap (map node) c.as_slice-all.ensures.value)
