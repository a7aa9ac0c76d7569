use Rattle.std.proofs.Common.{◌≡◌, drop}
use Rattle.std.specs.Prelude.{map}
use Rattle.table_rows.specs.Columns.{given, summed}
use Rattle.table_rows.proofs.given_taken.give_products.Given as goal

abbrev pub invariant-loop-product : goal.invariant-loop-product
invariant-loop-product l = summed l.initial.column.items (map (given l.productivity) l.products) ≡ summed l.column.items (map (given l.productivity) (drop l.product-index l.products))
