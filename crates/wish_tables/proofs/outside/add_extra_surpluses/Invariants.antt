use Rattle.production_table.specs.Tables.{IsSoundTable}
use Rattle.wish_tables.proofs.outside.add_extra_surpluses.Given as goal

abbrev pub invariant-loop-good : goal.invariant-loop-good
invariant-loop-good l = IsSoundTable l.table
