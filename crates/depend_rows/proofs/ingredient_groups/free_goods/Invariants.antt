use Rattle.std.proofs.Common.{◌≡◌, ◌++◌, drop}
use Rattle.std.specs.List.{filter_map}
use Rattle.depend_rows.specs.Goods.{free_good}
use Rattle.depend_rows.proofs.ingredient_groups.free_goods.Given as goal

abbrev pub invariant-loop-part : goal.invariant-loop-part
invariant-loop-part l = l.goods.items ++ filter_map free_good (drop l.part-index l.parts) ≡ filter_map free_good l.parts
