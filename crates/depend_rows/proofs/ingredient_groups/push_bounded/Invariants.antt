use Rattle.std.proofs.Common.{◌≡◌, ◌++◌, drop}
use Rattle.std.specs.List.{filter_map}
use Rattle.depend_rows.specs.Goods.{bounded_group}
use Rattle.depend_rows.proofs.ingredient_groups.push_bounded.Given as goal

abbrev pub invariant-loop-part : goal.invariant-loop-part
invariant-loop-part l = l.groups.items ++ filter_map (bounded_group l.game) (drop l.part-index l.parts) ≡ l.initial.groups.items ++ filter_map (bounded_group l.game) l.parts
