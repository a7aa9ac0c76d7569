use Rattle.game_reader.specs.Links.{linked_source}
use Rattle.game_reader.proofs.Loops.{LinkedSoFar}
use Rattle.std.specs.Vec.Iter.{into_iter_items, into_iter_len}
use Rattle.game_reader.proofs.prototype_lists.link_sources.Given as goal

abbrev pub invariant-loop-source : goal.invariant-loop-source
invariant-loop-source l = LinkedSoFar (λ source. source.section) (linked_source l.names) l.fn.sources.items l.names.sources (into_iter_items l.source-iterator) (into_iter_len l.source-iterator) l.linked.items
