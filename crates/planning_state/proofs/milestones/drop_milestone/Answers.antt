use Rattle.planning_state.proofs.MilestoneLemmas.{kept-drop, nodes-drop}
use Rattle.planning_state.proofs.milestones.drop_milestone.Goals as goal

pub returns-clause-kept : goal.returns-clause-kept
returns-clause-kept c = λ book rows kept. kept-drop book rows c.args.worlds.now c.drop_world-dropped.new.self c.args.node.0 c.drop_world-dropped.result c.drop_world-dropped.ensures.place c.drop_world-dropped.ensures.dropped c.drop_world-dropped.ensures.base c.drop_world-dropped.ensures.err kept

pub returns-clause-milestones : goal.returns-clause-milestones
returns-clause-milestones c = nodes-drop c.args.worlds.now c.drop_world-dropped.new.self c.args.node.0 c.drop_world-dropped.result c.drop_world-dropped.ensures.place c.drop_world-dropped.ensures.dropped c.drop_world-dropped.ensures.none c.drop_world-dropped.ensures.err
