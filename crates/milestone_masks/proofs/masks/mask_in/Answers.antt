-- One milestone more is looked at.
use Rattle.std.proofs.Common.{arith}
use Rattle.milestone_masks.proofs.MaskLemmas.{mask-more}
use Rattle.milestone_masks.proofs.masks.mask_in.Goals as goal

pub loop-k-preserved : goal.loop-k-preserved
loop-k-preserved c =
    mask-more
    c.args.milestones.now.items
    c.args.node.0
    c.loop-k.k
    c.loop-k.nodes.items
    c.push_masked.new.nodes.items
    (omega arith)
    c.loop-k.invariant
    c.in_ok-push_masked.ensures
