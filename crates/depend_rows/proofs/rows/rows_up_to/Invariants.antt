use Rattle.std.proofs.Common.{◌≤◌}
use Rattle.plan_base.specs.Shape.{node_count}
use Rattle.game_types.specs.Nodes.{shape_of}
use Rattle.depend_rows.specs.Rows.{row_of}
use Rattle.depend_rows.proofs.Ranges.{RowsSoFar, StepsSoFar, MembersSoFar}
use Rattle.depend_rows.proofs.rows.rows_up_to.Given as goal

abbrev pub invariant-loop-node : goal.invariant-loop-node
invariant-loop-node g l = record {
  rows : RowsSoFar (row_of l.book.game) (node_count (shape_of l.book.game)) l.node l.rows.items;
  steps : StepsSoFar l.initial.steps l.node l.steps;
  later : l.initial.steps ≤ l.steps;
  members : MembersSoFar (row_of l.book.game) (node_count (shape_of l.book.game)) l.node l.members;
  few : l.members ≤ l.limit;
}
