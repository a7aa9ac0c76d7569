use Rattle.std.proofs.Math.ListN.{drop}
use Rattle.planning_state.specs.Remembered.{AreMarksBut}
use Rattle.planning_state.proofs.remembered.take_marks.Given as goal

abbrev pub invariant-loop-node : goal.invariant-loop-node
invariant-loop-node l = AreMarksBut (drop l.node-index l.nodes) l.book l.marks
