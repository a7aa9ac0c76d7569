use Rattle.std.proofs.Common.{◌∙◌, ap}
use Rattle.milestone_masks.specs.Held.{Held, milestones_in}
use Rattle.milestone_masks.proofs.SlotLemmas.{same-held}
use Rattle.milestone_masks.proofs.milestones.Milestones.has_nodes_of.Goals as goal

pub returns : goal.returns
returns c =
    same-held c.are_same.result c.self.inside.blocks.items c.other.inside.blocks.items c.deref.result.now c.deref-2.result.now c.args.self.now.items c.args.other.now.items
    (ap (milestones_in c.self.inside.blocks.items) c.deref.ensures.value ∙ ap (λ (held : Held). held.items) c.self.view_is)
    (ap (milestones_in c.other.inside.blocks.items) c.deref-2.ensures.value ∙ ap (λ (held : Held). held.items) c.other.view_is)
    c.are_same.ensures
