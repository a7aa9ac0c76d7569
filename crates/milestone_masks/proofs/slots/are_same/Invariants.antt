use Rattle.milestone_masks.proofs.SlotLemmas.{HaveSameNodes}
use Rattle.milestone_masks.proofs.slots.are_same.Given as goal

abbrev pub invariant-loop-k : goal.invariant-loop-k
invariant-loop-k l = HaveSameNodes l.k l.left l.right
