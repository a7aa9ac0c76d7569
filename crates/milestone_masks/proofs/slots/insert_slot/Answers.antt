-- The blocks may have grown; then the slot has its lane.
use Rattle.std.proofs.Common.{◌∙◌, ℕ, List, length, ap, sym, subst}
use Rattle.std.specs.Prelude.{insert}
use Rattle.milestone_masks.specs.declared.worlds.Milestone.{Milestone}
use Rattle.milestone_masks.specs.declared.slots.Slot.{Slot}
use Rattle.milestone_masks.specs.declared.blocks.Block.{Block}
use Rattle.milestone_masks.specs.Held.{milestones_in, AreSlots, Grows, Occupies}
use Rattle.reach_incremental.proofs.RepairLemmas.{whole-back}
use Rattle.milestone_masks.proofs.OwnedLemmas.{milestones-grown, milestones-inserted, slots-grown, slots-inserted, with_ranks}
use Rattle.milestone_masks.proofs.slots.insert_slot.Goals as goal

pub returns-in_default-clause-err : goal.returns-in_default-clause-err
returns-in_default-clause-err c =
    let old = c.args.blocks.now.items in
    let grown = c.make_room.new.blocks.items in
    let grows : Grows (length c.args.ranks.now) old grown = subst (λ (n : ℕ). Grows n old grown) c.len.ensures c.make_room.ensures.grows in
    milestones-grown (length c.args.ranks.now) old grown c.args.slots.now.items c.requires.kept grows

pub returns-in_default-insert-clause-err : goal.returns-in_default-insert-clause-err
returns-in_default-insert-clause-err c =
    let old = c.args.blocks.now.items in
    let grown = c.make_room.new.blocks.items in
    let grows : Grows (length c.args.ranks.now) old grown = subst (λ (n : ℕ). Grows n old grown) c.len.ensures c.make_room.ensures.grows in
    ap (λ (slots : List Slot). milestones_in grown slots) c.in_default-insert.ensures.items
    ∙ milestones-grown (length c.args.ranks.now) old grown c.args.slots.now.items c.requires.kept grows

pub returns-clause-kept : goal.returns-clause-kept
returns-clause-kept c =
    let old = c.args.blocks.now.items in
    let grown = c.make_room.new.blocks.items in
    let grows : Grows (length c.args.ranks.now) old grown = subst (λ (n : ℕ). Grows n old grown) c.len.ensures c.make_room.ensures.grows in
    let s : Slot = record { node = c.args.node; block = c.in-Ok.place.block; lane = c.in-Ok.place.lane } in
    let taken : Occupies (length c.args.ranks.now) s.block s.lane s.node c.args.ranks.now grown c.occupy.new.blocks =
    subst (λ (bs : List Block). Occupies (length c.args.ranks.now) s.block s.lane s.node c.args.ranks.now bs c.occupy.new.blocks) c.deref_mut.ensures.value c.occupy.ensures in
    let kept : AreSlots (length c.args.ranks.now) grown c.args.slots.now.items = slots-grown (length c.args.ranks.now) old grown c.args.slots.now.items c.requires.kept grows in
    let back = whole-back c.make_room.new.blocks.len c.occupy.new.blocks grown (c.occupy.ensures.as_long ∙ c.deref_mut.ensures.len) in
    subst
    (λ (bs : List Block). AreSlots (length c.args.ranks.now) bs c.insert.new.self.items)
    (sym back)
    (subst
    (λ (slots : List Slot). AreSlots (length c.args.ranks.now) c.occupy.new.blocks slots)
    (sym c.in-Ok-insert.ensures.items)
    (slots-inserted (length c.args.ranks.now) grown c.occupy.new.blocks c.args.slots.now.items c.args.order s c.args.ranks.now kept c.requires.order c.in-Ok.ensures.place.0 c.in-Ok.ensures.place.1 c.in-Ok.ensures.place.2 taken))

pub returns-clause-ok : goal.returns-clause-ok
returns-clause-ok c =
    let old = c.args.blocks.now.items in
    let grown = c.make_room.new.blocks.items in
    let grows : Grows (length c.args.ranks.now) old grown = subst (λ (n : ℕ). Grows n old grown) c.len.ensures c.make_room.ensures.grows in
    let s : Slot = record { node = c.args.node; block = c.in-Ok.place.block; lane = c.in-Ok.place.lane } in
    let taken : Occupies (length c.args.ranks.now) s.block s.lane s.node c.args.ranks.now grown c.occupy.new.blocks =
    subst (λ (bs : List Block). Occupies (length c.args.ranks.now) s.block s.lane s.node c.args.ranks.now bs c.occupy.new.blocks) c.deref_mut.ensures.value c.occupy.ensures in
    let kept : AreSlots (length c.args.ranks.now) grown c.args.slots.now.items = slots-grown (length c.args.ranks.now) old grown c.args.slots.now.items c.requires.kept grows in
    let back = whole-back c.make_room.new.blocks.len c.occupy.new.blocks grown (c.occupy.ensures.as_long ∙ c.deref_mut.ensures.len) in
    ap (λ (bs : List Block). milestones_in bs c.insert.new.self.items) back
    ∙ (ap (λ (slots : List Slot). milestones_in c.occupy.new.blocks slots) c.in-Ok-insert.ensures.items
    ∙ (milestones-inserted (length c.args.ranks.now) grown c.occupy.new.blocks c.args.slots.now.items c.args.order s c.args.ranks.now kept c.in-Ok.ensures.place.2 taken
    ∙ ap (λ (ms : List Milestone). insert ms c.args.order (with_ranks c.args.node c.args.ranks.now)) (milestones-grown (length c.args.ranks.now) old grown c.args.slots.now.items c.requires.kept grows)))
