use Rattle.std.proofs.Common.{◌≡◌, ◌≤◌, ◌+◌, ◌++◌, drop, map}
use Rattle.depend_rows.specs.Rows.{row_beside}
use Rattle.depend_rows.proofs.rows.rows_for.Given as goal

abbrev pub invariant-loop-node : goal.invariant-loop-node
invariant-loop-node g l = record {
  rows : l.rows.items ++ map (row_beside l.book.game) (drop l.node-index l.nodes) ≡ map (row_beside l.book.game) l.nodes;
  steps : l.steps ≤ l.initial.steps + l.node-index;
  later : l.initial.steps ≤ l.steps;
}
