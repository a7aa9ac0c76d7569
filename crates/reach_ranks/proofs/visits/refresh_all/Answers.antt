-- One node more has its key.
use Rattle.std.proofs.Common.{arith}
use Rattle.reach_ranks.specs.Rounds.{world_under}
use Rattle.reach_ranks.proofs.RepairLemmas.{refresh-more}
use Rattle.reach_ranks.proofs.visits.refresh_all.Goals as goal

pub loop-node-preserved : goal.loop-node-preserved
loop-node-preserved g c = record {
  keys = refresh-more
      (world_under (g.R.Rows.rows c.args.rows.now) c.args.marks)
      4294967295
      c.args.ranks.now
      c.args.nodes.now
      c.loop-node.node-index
      (record { 0 = 0 })
      c.args.heap.now
      c.loop-node.heap
      c.refresh.new.heap
      c.loop-node-test.true
      c.requires.heap
      c.loop-node.invariant.keys
      c.refresh.ensures.key;
  steps = omega arith;
  later = omega arith;
}
