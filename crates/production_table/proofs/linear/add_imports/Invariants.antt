use Rattle.std.proofs.Common.{◌≡◌, ◌++◌, drop}
use Rattle.std.specs.Prelude.{map}
use Rattle.production_table.specs.Linear.{import_column}
use Rattle.production_table.proofs.linear.add_imports.Given as goal

abbrev pub invariant-loop-pair : goal.invariant-loop-pair
invariant-loop-pair l = l.initial.made.items ++ map (import_column l.goods) l.pairs ≡ l.made.items ++ map (import_column l.goods) (drop l.pair-index l.pairs)
