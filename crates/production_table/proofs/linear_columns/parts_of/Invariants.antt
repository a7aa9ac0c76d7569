use Rattle.std.proofs.Common.{◌≡◌, ◌++◌, drop}
use Rattle.production_table.specs.Linear.{parts_at}
use Rattle.production_table.proofs.linear_columns.parts_of.Given as goal

abbrev pub invariant-loop-pair : goal.invariant-loop-pair
invariant-loop-pair l = parts_at l.goods l.column ≡ l.parts.items ++ parts_at l.goods (drop l.pair-index l.column)
