-- The live lanes are those of the milestones.
use Rattle.std.proofs.Common.{arith}
use Rattle.milestone_masks.proofs.BlockLemmas.{lanes-agree, sizes-fit, slot-nodes, slot-ranks, slots-repaired}
use Rattle.milestone_masks.proofs.slot_repairs.repair_slots.Goals as goal

pub repair_blocks-requires-clause-agree : goal.repair_blocks-requires-clause-agree
repair_blocks-requires-clause-agree g c =
    lanes-agree (g.R.Rows.rows c.args.rows.now) c.args.marks.barred.now c.args.marks.granted.now c.args.changed.now c.args.blocks.now c.args.slots.now c.requires.kept c.requires.agree

pub returns-clause-kept : goal.returns-clause-kept
returns-clause-kept g c =
    slots-repaired (g.R.Rows.rows c.args.rows.now) c.args.marks.barred.now c.args.marks.granted.now c.args.blocks.now c.repair_blocks.new.blocks c.args.slots.now c.requires.kept c.repair_blocks.ensures.repaired

pub returns-clause-ranks : goal.returns-clause-ranks
returns-clause-ranks g c =
    slot-ranks (g.R.Rows.rows c.args.rows.now) c.args.marks.barred.now c.args.marks.granted.now c.args.blocks.now c.repair_blocks.new.blocks c.args.slots.now c.requires.kept c.repair_blocks.ensures.repaired

pub returns-clause-milestones : goal.returns-clause-milestones
returns-clause-milestones g c = slot-nodes c.args.blocks.now c.repair_blocks.new.blocks c.args.slots.now

pub returns-clause-steps : goal.returns-clause-steps
returns-clause-steps g c =
    omega (
      arith,
      c.repair_blocks.ensures.steps,
      sizes-fit (g.R.Rows.rows c.args.rows.now) c.args.marks.barred.now c.args.marks.granted.now c.args.changed.now c.args.blocks.now c.repair_blocks.new.blocks c.args.slots.now c.requires.kept,
    )
