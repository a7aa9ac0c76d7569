use Rattle.milestone_masks.specs.Held.{AreCopies}
use Rattle.milestone_masks.proofs.blocks.copy_blocks.Given as goal

abbrev pub invariant-loop-block : goal.invariant-loop-block
invariant-loop-block l = AreCopies l.block-index l.blocks l.copies.items
