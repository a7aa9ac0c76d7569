use Rattle.std.proofs.Common.{◌≤◌, ◌+◌, ◌-◌, length}
use Rattle.milestone_masks.specs.Found.{AreSeen}
use Rattle.milestone_masks.proofs.Gathered.{IsGathered}
use Rattle.milestone_masks.proofs.why.gather.Given as goal

abbrev pub invariant-loop-i : goal.invariant-loop-i
invariant-loop-i g l = record {
  gathered : IsGathered (g.R.Rows.rows l.fn.rows) l.fn.granted l.fn.ranks l.fn.node.0 l.i l.found;
  seen : AreSeen l.found l.seen;
  steps : l.steps ≤ l.initial.steps + l.i;
  later : l.initial.steps ≤ l.steps;
}

abbrev pub decreases-loop-i : goal.decreases-loop-i
decreases-loop-i g l = length l.seen - l.i
