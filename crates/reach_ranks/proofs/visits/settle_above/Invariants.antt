use Rattle.std.proofs.Common.{◌+◌, ◌≤◌}
use Rattle.reach_ranks.specs.Rounds.{world_under}
use Rattle.reach_ranks.specs.Floors.{AreAbove}
use Rattle.reach_ranks.specs.Given.{HoldsBounds, left_to_do, work_left}
use Rattle.reach_ranks.proofs.visits.settle_above.Given as goal

abbrev pub invariant-visits : goal.invariant-visits
invariant-visits g l = record {
  keys : HoldsBounds (world_under (g.R.Rows.rows l.fn.rows) l.fn.marks) 4294967295 l.ranks l.heap;
  above : AreAbove l.fn.floor l.ranks;
  steps : l.steps + left_to_do (world_under (g.R.Rows.rows l.fn.rows) l.fn.marks) l.ranks l.heap ≤ l.initial.steps + work_left (world_under (g.R.Rows.rows l.fn.rows) l.fn.marks) l.initial.ranks;
  later : l.initial.steps ≤ l.steps;
}

abbrev pub decreases-visits : goal.decreases-visits
decreases-visits g l = left_to_do (world_under (g.R.Rows.rows l.fn.rows) l.fn.marks) l.ranks l.heap
