use Rattle.std.proofs.Common.{◌≡◌, drop}
use Rattle.std.specs.Prelude.{map}
use Rattle.table_rows.specs.Columns.{pack_taken, summed}
use Rattle.table_rows.proofs.given_taken.take_packs.Given as goal

abbrev pub invariant-loop-pack : goal.invariant-loop-pack
invariant-loop-pack l = summed l.initial.column.items (map pack_taken l.packs) ≡ summed l.column.items (map pack_taken (drop l.pack-index l.packs))
