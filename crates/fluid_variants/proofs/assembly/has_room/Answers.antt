use Rattle.std.proofs.Common.{◌∙◌, ◌<◌, ap, arith}
use Rattle.fluid_variants.specs.Records.{record_count}
use Rattle.fluid_variants.proofs.AssemblyLemmas.{room_first, room_gone}
use Rattle.fluid_variants.proofs.assembly.has_room.Goals as goal

pub loop-list-init : goal.loop-list-init
loop-list-init c = room_first c.args.lists.now c.args.room

pub returns-then-left-count : goal.returns-then-left-count
returns-then-left-count c =
    let gone : c.loop-list.left < c.record_count-count.result = omega (arith, c.if-left-count.true) in
    room_gone c.args.lists.now c.loop-list.list-index c.loop-list.left c.args.room c.list-item.result c.record_count-count.result
    c.loop-list-test.true c.list-item.is (c.record_count-count.ensures ∙ ap record_count c.as_slice.ensures.value) gone c.loop-list.invariant
