use Rattle.std.proofs.Common.{◌≡◌, drop}
use Rattle.production_table.specs.Linear.{with_goods}
use Rattle.production_table.proofs.table_places.add_goods.Given as goal

abbrev pub invariant-loop-pair : goal.invariant-loop-pair
invariant-loop-pair l = with_goods l.initial.goods.items l.pairs ≡ with_goods l.goods.items (drop l.pair-index l.pairs)
