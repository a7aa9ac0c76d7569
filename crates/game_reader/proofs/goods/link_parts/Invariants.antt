use Rattle.game_reader.specs.Links.{linked_part}
use Rattle.game_reader.proofs.Loops.{each_onto}
use Rattle.prototype_fields.specs.Values.{each}
use Rattle.std.proofs.Common.{◌≡◌, drop}
use Rattle.game_reader.proofs.goods.link_parts.Given as goal

abbrev pub invariant-loop-part : goal.invariant-loop-part
invariant-loop-part l = each (linked_part l.names) l.part-items ≡ each_onto (linked_part l.names) l.linked.items (drop l.part-index l.part-items)
