use Rattle.game_reader.specs.Links.{linked_launch}
use Rattle.game_reader.proofs.Loops.{each_onto}
use Rattle.prototype_fields.specs.Values.{each}
use Rattle.std.proofs.Common.{◌≡◌, drop}
use Rattle.game_reader.proofs.goods.link_launches.Given as goal

abbrev pub invariant-loop-product : goal.invariant-loop-product
invariant-loop-product l = each (linked_launch l.names) l.product-items ≡ each_onto (linked_launch l.names) l.linked.items (drop l.product-index l.product-items)
