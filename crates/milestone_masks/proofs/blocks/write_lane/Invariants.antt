use Rattle.milestone_masks.proofs.SlotLemmas.{IsWritten}
use Rattle.milestone_masks.proofs.blocks.write_lane.Given as goal

abbrev pub invariant-loop-n : goal.invariant-loop-n
invariant-loop-n l = IsWritten l.fn.l l.n l.fn.from l.initial.to l.to
