use Rattle.std.proofs.Common.{◌≡◌, drop}
use Rattle.std.specs.Prelude.{map}
use Rattle.table_rows.specs.Columns.{summed, taken}
use Rattle.table_rows.proofs.given_taken.take_ingredients.Given as goal

abbrev pub invariant-loop-part : goal.invariant-loop-part
invariant-loop-part l = summed l.initial.column.items (map (taken l.game l.setup) l.parts) ≡ summed l.column.items (map (taken l.game l.setup) (drop l.part-index l.parts))
