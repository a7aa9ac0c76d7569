-- The rows of so many nodes were read.
use Rattle.std.proofs.Common.{◌≡◌, ◌+◌, ◌≤◌, All, drop, length, map, take}
use Rattle.graph_store.specs.Rows.{HasMembersBelow}
use Rattle.milestone_masks.specs.Found.{AreRowsOf}
use Rattle.milestone_masks.proofs.row_blocks.rows_of.Given as goal

abbrev pub invariant-loop-k : goal.invariant-loop-k
invariant-loop-k g l = record {
  long : length l.block.items ≡ l.k;
  members : All (λ r. HasMembersBelow (length (g.R.Rows.rows l.fn.rows)) r.now) l.block.items;
  rows : AreRowsOf (g.R.Rows.rows l.fn.rows) (take l.k (drop l.fn.start l.fn.nodes)) (map (λ r. r.now) l.block.items);
  steps : l.steps ≤ l.initial.steps + l.k;
  later : l.initial.steps ≤ l.steps;
}
