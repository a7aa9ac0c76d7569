use Rattle.std.proofs.Common.{◌∙◌, arith, get_or, sym}
use Rattle.graph_store.specs.Members.{node}
use Rattle.depend_index.proofs.CoolestLemmas.{within_first, within_stop}
use Rattle.graph_store.proofs.Walks.{at_self}
use Rattle.depend_index.proofs.temperatures.numbers_within.Goals as goal

pub loop-place-init : goal.loop-place-init
loop-place-init c =
    within_first c.args.fluids.now c.args.first c.args.low.now c.args.high.now c.args.nodes.now c.too_cool_count-from.result _ c.new-numbers.ensures.items c.too_cool_count-from.ensures.within c.too_cool_count-from.ensures.cool

pub returns-then-not-is_node_within : goal.returns-then-not-is_node_within
returns-then-not-is_node_within c =
    within_stop c.args.fluids.now c.args.first c.args.low.now c.args.high.now c.args.nodes.now c.too_cool_count-from.result c.loop-place.place (get_or c.args.nodes.now c.loop-place.place (node 0)) c.loop-place.numbers.items c.requires
    (omega (arith, c.loop-place-test.true)) (at_self c.args.nodes.now c.loop-place.place (node 0) (omega (arith, c.loop-place-test.true))) c.too_cool_count-from.ensures.warm
    (sym c.is_node_within.ensures ∙ c.if-not-is_node_within.true) c.loop-place.invariant
