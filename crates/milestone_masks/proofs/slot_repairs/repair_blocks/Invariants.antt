use Rattle.std.proofs.Common.{◌≡◌, ◌+◌, ◌*◌, ◌≤◌}
use Rattle.reach_ranks.specs.Given.{sum_below}
use Rattle.milestone_masks.specs.Held.{size_in_block, AreRepaired}
use Rattle.milestone_masks.proofs.slot_repairs.repair_blocks.Given as goal

abbrev pub invariant-loop-b : goal.invariant-loop-b
invariant-loop-b g l = record {
  heap : l.heap ≡ l.initial.heap;
  repaired : AreRepaired (g.R.Rows.rows l.fn.rows) l.fn.marks.barred.now l.fn.marks.granted.now l.b l.initial.blocks l.blocks;
  steps : l.steps ≤ l.initial.steps + 6 * sum_below (size_in_block (g.R.Rows.rows l.fn.rows) l.fn.marks.barred.now l.fn.marks.granted.now l.fn.changed l.initial.blocks l.blocks) l.b;
  later : l.initial.steps ≤ l.steps;
}
