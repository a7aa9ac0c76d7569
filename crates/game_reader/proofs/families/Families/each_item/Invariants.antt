use Rattle.game_reader.specs.Links.{item_named}
use Rattle.game_reader.proofs.Loops.{each_onto}
use Rattle.prototype_fields.specs.Values.{each}
use Rattle.std.proofs.Common.{◌≡◌, drop}
use Rattle.game_reader.proofs.families.Families.each_item.Given as goal

abbrev pub invariant-loop-name : goal.invariant-loop-name
invariant-loop-name l = each (item_named l.self l.within l.key) l.name-items ≡ each_onto (item_named l.self l.within l.key) l.items.items (drop l.name-index l.name-items)
