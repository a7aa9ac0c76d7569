-- The milestone at the place.
use Rattle.std.proofs.Common.{◌∙◌, slice_get, length, ◌<◌, sym, ap, subst}
use Rattle.milestone_masks.specs.Worlds.{Kept, milestones_of}
use Rattle.milestone_masks.proofs.MaskLemmas.{node-at}
use Rattle.milestone_masks.proofs.worlds.Worlds.milestone.Goals as goal

pub returns : goal.returns
returns c =
    ap (λ (kept : Kept). slice_get (milestones_of kept) c.args.k) (sym c.self.view_is)
    ∙ node-at
    c.self.inside.milestones.items
    c.args.k
    c.node.result
    (subst (λ (kept : Kept). c.args.k < length kept.milestones) (sym c.self.view_is) c.requires)
    c.node.ensures
