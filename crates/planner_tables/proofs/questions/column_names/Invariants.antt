use Rattle.std.proofs.Common.{◌≡◌, ◌++◌, drop}
use Rattle.planner_tables.specs.Questions.{column_names}
use Rattle.planner_tables.proofs.questions.column_names.Given as goal

abbrev pub invariant-loop-column : goal.invariant-loop-column
invariant-loop-column l = l.names.items ++ column_names (drop l.column-index l.columns) ≡ column_names l.columns
