use Rattle.milestone_masks.proofs.SlotLemmas.{same-nodes}
use Rattle.milestone_masks.proofs.slots.are_same.Goals as goal

pub returns : goal.returns
returns c = same-nodes c.args.left.now c.args.right.now c.loop-k.k c.loop-k-test.false c.loop-k.invariant
