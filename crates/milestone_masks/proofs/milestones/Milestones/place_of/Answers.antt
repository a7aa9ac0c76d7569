-- The slots stand in the milestones' order.
use Rattle.std.proofs.Common.{◌∙◌, sym, ap, List}
use Rattle.milestone_masks.specs.Held.{Held}
use Rattle.milestone_masks.specs.Worlds.{place_of}
use Rattle.milestone_masks.specs.declared.slots.Slot.{Slot}
use Rattle.std.specs.Prelude.{position, ◌==◌}
use Rattle.milestone_masks.proofs.SlotLemmas.{place-same}
use Rattle.milestone_masks.proofs.milestones.Milestones.place_of.Goals as goal

pub returns : goal.returns
returns c =
    c.place_in.ensures
    ∙ (ap (λ (slots : List Slot). position (λ s. s.node.0 == c.args.node.0) slots) c.deref.ensures.value
    ∙ (sym (place-same c.self.inside.blocks.items c.self.inside.slots.items c.args.node.0)
    ∙ ap (λ (held : Held). place_of held.items c.args.node.0) c.self.view_is))
