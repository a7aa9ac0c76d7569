use Rattle.std.proofs.Common.{arith}
use Rattle.planner_core.proofs.ListLemmas.{totalled-more}
use Rattle.planner_core.proofs.reached.totals_of.Goals as goal

pub loop-n-preserved : goal.loop-n-preserved
loop-n-preserved c =
    totalled-more c.args.planning.now c.loop-n.n c.node_count-end.result c.loop-n.totals.reached c.loop-n.totals.bits c.with_node.new.totals.reached c.with_node.new.totals.bits (omega arith) c.loop-n.invariant
    c.with_node.ensures.reached c.with_node.ensures.bits c.with_node.ensures.few
