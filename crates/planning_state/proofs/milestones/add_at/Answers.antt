use Rattle.std.specs.Prelude.{None}
use Rattle.planning_state.proofs.MilestoneLemmas.{kept-add, steps-add, whole-as, within-rows}
use Rattle.planning_state.proofs.milestones.add_at.Goals as goal

pub add_world-requires-clause-marks : goal.add_world-requires-clause-marks
add_world-requires-clause-marks g c = whole-as c.args.book.now (g.R.Rows.rows c.args.graph.now) c.as_slice.result.now c.as_slice-2.result.now None c.requires.kept.sound.book c.requires.kept.rows_are c.as_slice.ensures c.as_slice-2.ensures

pub add_world-requires-clause-node : goal.add_world-requires-clause-node
add_world-requires-clause-node g c = within-rows c.args.book.now (g.R.Rows.rows c.args.graph.now) c.args.node.0 c.requires.kept.rows_are c.requires.node

pub returns-clause-kept : goal.returns-clause-kept
returns-clause-kept g c = kept-add c.args.book.now (g.R.Rows.rows c.args.graph.now) c.as_slice.result.now c.as_slice-2.result.now c.args.worlds.now c.add_world.new.self c.args.node c.args.place c.add_world.result c.requires.kept c.as_slice.ensures c.as_slice-2.ensures c.requires.node c.requires.place c.add_world.ensures.answer c.add_world.ensures.added c.add_world.ensures.err c.add_world.ensures.worlds

pub returns-clause-steps : goal.returns-clause-steps
returns-clause-steps g c = steps-add c.args.book.now (g.R.Rows.rows c.args.graph.now) c.as_slice.result.now c.as_slice-2.result.now c.args.worlds.now.base c.args.node c.args.steps.now c.add_world.new.steps c.requires.kept.rows_are c.as_slice.ensures c.as_slice-2.ensures c.requires.kept.worlds.base c.add_world.ensures.steps
