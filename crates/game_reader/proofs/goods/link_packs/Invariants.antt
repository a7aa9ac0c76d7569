use Rattle.game_reader.specs.Links.{linked_pack}
use Rattle.game_reader.proofs.Loops.{each_onto}
use Rattle.prototype_fields.specs.Values.{each}
use Rattle.std.proofs.Common.{◌≡◌, drop}
use Rattle.game_reader.proofs.goods.link_packs.Given as goal

abbrev pub invariant-loop-pack : goal.invariant-loop-pack
invariant-loop-pack l = each (linked_pack l.names) l.pack-items ≡ each_onto (linked_pack l.names) l.linked.items (drop l.pack-index l.pack-items)
