use Rattle.std.proofs.Common.{◌≡◌, ◌+◌}
use Rattle.fluid_variants.specs.Contents.{contents}
use Rattle.fluid_variants.specs.Records.{record_place}
use Rattle.fluid_variants.proofs.assembly.has_room.Given as goal

abbrev pub invariant-loop-list : goal.invariant-loop-list
invariant-loop-list l = l.left + record_place 0 (contents l.lists) l.list-index ≡ l.room
