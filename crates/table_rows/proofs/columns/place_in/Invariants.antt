use Rattle.std.proofs.Common.{take}
use Rattle.table_rows.specs.Places.{AllBelow}
use Rattle.table_rows.proofs.columns.place_in.Given as goal

abbrev pub invariant-loop-place : goal.invariant-loop-place
invariant-loop-place l = AllBelow l.good (take l.place l.column)
