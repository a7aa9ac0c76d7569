use Rattle.std.proofs.Common.{◌+◌, ◌≤◌}
use Rattle.reach_incremental.specs.Lanes.{worlds_under, AreLanesAbove}
use Rattle.reach_incremental.specs.Keys.{lane_work, left_in_lanes, HoldsLanes}
use Rattle.reach_incremental.proofs.visits.settle_lanes.Given as goal

abbrev pub invariant-visits : goal.invariant-visits
invariant-visits g l = record {
  keys : HoldsLanes (worlds_under (g.R.Rows.rows l.fn.rows) l.fn.marks) l.ranks l.heap;
  above : AreLanesAbove (worlds_under (g.R.Rows.rows l.fn.rows) l.fn.marks) l.fn.floor l.ranks;
  steps : l.steps + left_in_lanes (worlds_under (g.R.Rows.rows l.fn.rows) l.fn.marks) l.ranks l.heap ≤ l.initial.steps + lane_work (worlds_under (g.R.Rows.rows l.fn.rows) l.fn.marks) l.initial.ranks;
  later : l.initial.steps ≤ l.steps;
}

abbrev pub decreases-visits : goal.decreases-visits
decreases-visits g l = left_in_lanes (worlds_under (g.R.Rows.rows l.fn.rows) l.fn.marks) l.ranks l.heap
