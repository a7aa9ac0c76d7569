use Rattle.std.proofs.Common.{◌≡◌, take}
use Rattle.graph_store.specs.Packed.{packed_groups}
use Rattle.graph_store.proofs.packed.words_of.Given as goal

abbrev pub invariant-loop-group : goal.invariant-loop-group
invariant-loop-group l = l.words.items ≡ packed_groups (take l.group-index l.group-items)
