use Rattle.production_table.specs.Tables.{IsSoundTable}
use Rattle.wish_tables.proofs.outside.add_imports.Given as goal

abbrev pub invariant-loop-part : goal.invariant-loop-part
invariant-loop-part l = IsSoundTable l.table
