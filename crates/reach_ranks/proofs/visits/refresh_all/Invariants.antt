use Rattle.std.proofs.Common.{◌+◌, ◌≤◌, take}
use Rattle.reach_ranks.specs.Rounds.{world_under}
use Rattle.reach_ranks.specs.Given.{Refreshes}
use Rattle.reach_ranks.proofs.visits.refresh_all.Given as goal

abbrev pub invariant-loop-node : goal.invariant-loop-node
invariant-loop-node g l = record {
  keys : Refreshes (world_under (g.R.Rows.rows l.fn.rows) l.fn.marks) 4294967295 l.fn.ranks (take l.node-index l.nodes) l.initial.heap l.heap;
  steps : l.steps ≤ l.initial.steps + l.node-index;
  later : l.initial.steps ≤ l.steps;
}
