use Rattle.std.proofs.Common.{◌≡◌, ◌++◌, drop}
use Rattle.production_table.specs.Tables.{labels_of}
use Rattle.planner_tables.proofs.questions.labels_of.Given as goal

abbrev pub invariant-loop-row : goal.invariant-loop-row
invariant-loop-row l = l.labels.items ++ labels_of (drop l.row-index l.rows) ≡ labels_of l.rows
