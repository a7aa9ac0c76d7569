use Rattle.std.proofs.Common.{◌≡◌, ◌++◌, drop}
use Rattle.std.specs.Prelude.{map}
use Rattle.production_table.specs.Linear.{surplus_column}
use Rattle.production_table.proofs.linear.add_surpluses.Given as goal

abbrev pub invariant-loop-pair : goal.invariant-loop-pair
invariant-loop-pair l = l.initial.made.items ++ map (surplus_column l.goods) l.pairs ≡ l.made.items ++ map (surplus_column l.goods) (drop l.pair-index l.pairs)
