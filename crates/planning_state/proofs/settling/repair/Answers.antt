use Rattle.std.specs.Prelude.{None}
use Rattle.planning_state.proofs.MilestoneLemmas.{whole-as, nodes-within}
use Rattle.planning_state.proofs.settling.repair.Goals as goal

pub repair_all-requires-clause-marks : goal.repair_all-requires-clause-marks
repair_all-requires-clause-marks g c = whole-as c.args.book.now (g.R.Rows.rows c.args.graph.now) c.as_slice.result.now c.as_slice-2.result.now None c.requires.sound c.requires.rows c.as_slice.ensures c.as_slice-2.ensures

pub repair_all-requires-clause-changed : goal.repair_all-requires-clause-changed
repair_all-requires-clause-changed g c = nodes-within c.args.book.now (g.R.Rows.rows c.args.graph.now) c.args.nodes.now c.requires.rows c.requires.nodes
