use Rattle.production_table.specs.Tables.{IsSoundTable}
use Rattle.wish_tables.proofs.building.add_rows.Given as goal

abbrev pub invariant-loop-place : goal.invariant-loop-place
invariant-loop-place l = IsSoundTable l.table
