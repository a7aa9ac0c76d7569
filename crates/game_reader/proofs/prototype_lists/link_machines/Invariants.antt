use Rattle.game_reader.specs.Links.{linked_machine}
use Rattle.game_reader.proofs.Loops.{LinkedSoFar}
use Rattle.std.specs.Vec.Iter.{into_iter_items, into_iter_len}
use Rattle.game_reader.proofs.prototype_lists.link_machines.Given as goal

abbrev pub invariant-loop-machine : goal.invariant-loop-machine
invariant-loop-machine l = LinkedSoFar (λ machine. machine.section) (linked_machine l.names) l.fn.machines.items l.names.machines (into_iter_items l.machine-iterator) (into_iter_len l.machine-iterator) l.linked.items
