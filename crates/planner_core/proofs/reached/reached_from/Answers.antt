use Rattle.std.proofs.Common.{arith}
use Rattle.planner_core.proofs.ListLemmas.{listed-more}
use Rattle.planner_core.proofs.reached.reached_from.Goals as goal

pub loop-n-preserved : goal.loop-n-preserved
loop-n-preserved c = listed-more c.args.planning.now.book c.loop-n.n c.args.end c.loop-n.nodes.items c.push_reached.new.nodes.items _ (omega arith) c.in_ok-push_reached.ensures c.loop-n.invariant
