use Rattle.planning_state.specs.Worlds.{is_reached}
use Rattle.planner_core.proofs.ListLemmas.{marked-more}
use Rattle.planner_core.proofs.reached.reached_marks.Goals as goal

pub loop-n-preserved : goal.loop-n-preserved
loop-n-preserved c = marked-more (is_reached c.args.planning.now.book) c.loop-n.n c.loop-n.marks.items c.push_mark.new.marks.items c.in_ok-push_mark.ensures c.loop-n.invariant
