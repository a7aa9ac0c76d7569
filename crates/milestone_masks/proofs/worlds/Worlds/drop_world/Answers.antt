-- One milestone less.
use Rattle.std.proofs.Common.{sym}
use Rattle.milestone_masks.proofs.MaskLemmas.{kept-removed}
use Rattle.milestone_masks.proofs.worlds.Worlds.drop_world.Goals as goal

pub invariant_of-self : goal.invariant_of-self
invariant_of-self c =
    kept-removed
    c.self.inside.heap
    c.self.inside.base
    c.self.inside.milestones.nodes
    c.remove.new.self.nodes
    c.args.node.0
    c.in-Some.place
    c.self.inside.milestones.items
    c.remove.new.self.items
    c.self.invariant
    (sym c.in-Some.ensures)
    c.remove.ensures.nodes
    c.remove.ensures.removed
