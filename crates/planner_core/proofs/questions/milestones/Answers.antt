use Rattle.planner_core.proofs.ListLemmas.{taken-more}
use Rattle.planner_core.proofs.questions.milestones.Goals as goal

pub loop-place-preserved : goal.loop-place-preserved
loop-place-preserved c = taken-more c.args.planning.now.milestones c.loop-place.nodes.items c.push.new.self.items c.loop-place.place c.milestone.result c.milestone.ensures c.loop-place.invariant c.in_ok-push.ensures.items
