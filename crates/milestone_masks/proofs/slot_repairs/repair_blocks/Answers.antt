-- One block more is repaired.
use Rattle.std.proofs.Common.{◌≡◌, ◌∙◌, Some, slice_get, get_or, arith}
use Rattle.std.proofs.lemmas.Option.{slice_get-get_or}
use Rattle.milestone_masks.specs.declared.blocks.Block.{Block}
use Rattle.milestone_masks.proofs.BlockLemmas.{block_sizes-more, blocks_repaired-more}
use Rattle.milestone_masks.proofs.slot_repairs.repair_blocks.Goals as goal

pub loop-b-preserved : goal.loop-b-preserved
loop-b-preserved g c =
    let was : Block = get_or c.loop-b.blocks c.loop-b.b c.index-blocks-b.result in
    let at : slice_get c.loop-b.blocks c.loop-b.b ≡ Some was = slice_get-get_or c.loop-b.blocks c.loop-b.b c.index-blocks-b.result (omega (arith, c.loop-b.invariant.repaired.as_long)) in
    record {
      heap = c.repair_block.ensures.heap ∙ c.loop-b.invariant.heap;
      repaired = blocks_repaired-more
          (g.R.Rows.rows c.args.rows.now)
          c.args.marks.barred.now
          c.args.marks.granted.now
          c.loop-b.b
          c.args.blocks.now
          c.loop-b.blocks
          was
          c.repair_block.new.block
          c.loop-b-test.true
          c.loop-b.invariant.repaired
          at
          c.repair_block.ensures.extras
          c.repair_block.ensures.ranks
          c.repair_block.ensures.long
          c.repair_block.ensures.small;
      steps = omega (
        arith,
        c.repair_block.ensures.steps,
        c.loop-b.invariant.steps,
        block_sizes-more
            (g.R.Rows.rows c.args.rows.now)
            c.args.marks.barred.now
            c.args.marks.granted.now
            c.args.changed.now
            c.loop-b.b
            c.args.blocks.now
            c.loop-b.blocks
            was
            c.repair_block.new.block
            c.loop-b-test.true
            c.loop-b.invariant.repaired
            at,
      );
      later = omega (arith, c.repair_block.ensures.later, c.loop-b.invariant.later);
    }
