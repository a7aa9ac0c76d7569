use Rattle.std.proofs.Common.{◌≡◌, ◌++◌, drop}
use Rattle.production_table.specs.Linear.{row_columns}
use Rattle.production_table.proofs.linear.add_rows.Given as goal

abbrev pub invariant-loop-number : goal.invariant-loop-number
invariant-loop-number l = l.initial.made.items ++ row_columns l.goods 0 l.rows l.columns ≡ l.made.items ++ row_columns l.goods l.number (drop l.number l.rows) (drop l.number l.columns)
