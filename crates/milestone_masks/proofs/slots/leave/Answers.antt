-- The lane is made idle.
use Rattle.std.proofs.Common.{refl}
use Rattle.milestone_masks.proofs.SlotLemmas.{left-idle}
use Rattle.milestone_masks.proofs.slots.leave.Goals as goal

pub returns-then-not-has_slot-clause-left : goal.returns-then-not-has_slot-clause-left
returns-then-not-has_slot-clause-left c = λ none. left-idle c.args.blocks.now c.args.block c.args.lane _ _ c.requires.block refl
