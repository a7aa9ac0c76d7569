-- One milestone more is counted.
use Rattle.std.proofs.Common.{◌+◌, arith, ap}
use Rattle.milestone_masks.proofs.MaskLemmas.{count-more}
use Rattle.milestone_masks.proofs.masks.mask_len_in.Goals as goal

pub loop-k-preserved : goal.loop-k-preserved
loop-k-preserved c = record {
  counted = count-more
      c.args.milestones.now.items
      c.args.node.0
      c.loop-k.k
      c.loop-k.count
      (c.loop-k.count + c.mask_bit-count.result)
      (omega arith)
      c.loop-k.invariant.counted
      (λ m at. ap (λ b. c.loop-k.count + b) (c.mask_bit-count.ensures.bit m at));
  few = omega (arith, c.loop-k.invariant.few, c.mask_bit-count.ensures.few);
}
