-- The slot is gone, and its lane is idle.
use Rattle.std.proofs.Common.{◌∙◌, List, ap, sym, subst}
use Rattle.std.specs.Prelude.{remove}
use Rattle.milestone_masks.specs.declared.slots.Slot.{Slot}
use Rattle.milestone_masks.specs.Held.{milestones_in, AreSlots}
use Rattle.milestone_masks.proofs.OwnedLemmas.{milestones-removed, slots-removed, IsLeft}
use Rattle.milestone_masks.proofs.slots.remove_slot.Goals as goal

pub returns-clause-kept : goal.returns-clause-kept
returns-clause-kept c =
    let left : IsLeft c.args.blocks.now c.leave.new.blocks (remove c.args.slots.now.items c.args.order) c.index-slot.result.now.block c.index-slot.result.now.lane =
    subst
    (λ (slots : List Slot). IsLeft c.args.blocks.now c.leave.new.blocks slots c.index-slot.result.now.block c.index-slot.result.now.lane)
    (c.deref.ensures.value ∙ c.remove.ensures.items)
    (record { as_long = c.leave.ensures.long; rows_same = c.leave.ensures.ranks; others = c.leave.ensures.others; kept = c.leave.ensures.kept; idle = c.leave.ensures.left }) in
    subst
    (λ (slots : List Slot). AreSlots c.args.nodes c.leave.new.blocks slots)
    (sym c.remove.ensures.items)
    (slots-removed c.args.nodes c.args.blocks.now c.leave.new.blocks c.args.slots.now.items c.args.order c.index-slot.result.now c.requires.kept c.requires.order c.index-slot.ensures left)

pub returns-clause-removed : goal.returns-clause-removed
returns-clause-removed c =
    let left : IsLeft c.args.blocks.now c.leave.new.blocks (remove c.args.slots.now.items c.args.order) c.index-slot.result.now.block c.index-slot.result.now.lane =
    subst
    (λ (slots : List Slot). IsLeft c.args.blocks.now c.leave.new.blocks slots c.index-slot.result.now.block c.index-slot.result.now.lane)
    (c.deref.ensures.value ∙ c.remove.ensures.items)
    (record { as_long = c.leave.ensures.long; rows_same = c.leave.ensures.ranks; others = c.leave.ensures.others; kept = c.leave.ensures.kept; idle = c.leave.ensures.left }) in
    ap (λ (slots : List Slot). milestones_in c.leave.new.blocks slots) c.remove.ensures.items
    ∙ milestones-removed c.args.blocks.now c.leave.new.blocks c.args.slots.now.items c.args.order c.index-slot.result.now.block c.index-slot.result.now.lane left
