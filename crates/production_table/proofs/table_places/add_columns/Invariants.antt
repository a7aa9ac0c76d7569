use Rattle.std.proofs.Common.{◌≡◌, drop}
use Rattle.production_table.specs.Linear.{with_columns}
use Rattle.production_table.proofs.table_places.add_columns.Given as goal

abbrev pub invariant-loop-column : goal.invariant-loop-column
invariant-loop-column l = with_columns l.initial.goods.items l.columns ≡ with_columns l.goods.items (drop l.column-index l.columns)
