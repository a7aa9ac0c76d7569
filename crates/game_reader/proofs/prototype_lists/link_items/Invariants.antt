use Rattle.game_reader.specs.Links.{linked_item}
use Rattle.game_reader.proofs.Loops.{LinkedSoFar}
use Rattle.std.specs.Vec.Iter.{into_iter_items, into_iter_len}
use Rattle.game_reader.proofs.prototype_lists.link_items.Given as goal

abbrev pub invariant-loop-item : goal.invariant-loop-item
invariant-loop-item l = LinkedSoFar (λ item. item.section) (linked_item l.names) l.fn.items.items l.names.items (into_iter_items l.item-iterator) (into_iter_len l.item-iterator) l.linked.items
