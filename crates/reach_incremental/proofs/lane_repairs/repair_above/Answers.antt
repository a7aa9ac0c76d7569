-- The changed nodes alone have keys at first, and the sizes of the changes bound the work.
use Rattle.std.proofs.Common.{arith}
use Rattle.reach_incremental.specs.Lanes.{worlds_under}
use Rattle.reach_incremental.proofs.RepairLemmas.{holds-start, right-start, work-size}
use Rattle.reach_incremental.proofs.lane_repairs.repair_above.Goals as goal

pub settle_lanes-requires-clause-keys : goal.settle_lanes-requires-clause-keys
settle_lanes-requires-clause-keys g c =
    holds-start
    (worlds_under (g.R.Rows.rows c.args.rows.now) c.args.marks)
    c.args.changed.now
    c.args.ranks.now
    c.args.heap.now
    c.refresh_all.new.heap
    c.requires.ranks
    c.requires.small
    c.requires.heap
    c.requires.agree
    c.refresh_all.ensures.keys

pub settle_lanes-requires-clause-right : goal.settle_lanes-requires-clause-right
settle_lanes-requires-clause-right g c =
    right-start
    (worlds_under (g.R.Rows.rows c.args.rows.now) c.args.marks)
    c.args.changed.now
    c.args.ranks.now
    c.args.heap.now
    c.refresh_all.new.heap
    c.requires.small
    c.requires.heap
    c.requires.agree
    c.refresh_all.ensures.keys

pub returns-clause-steps : goal.returns-clause-steps
returns-clause-steps g c =
    omega (
      arith,
      c.refresh_all.ensures.steps,
      c.settle_lanes.ensures.steps,
      work-size
          (worlds_under (g.R.Rows.rows c.args.rows.now) c.args.marks)
          c.args.changed.now
          c.args.ranks.now
          c.settle_lanes.new.ranks
          c.requires.some.0
          c.requires.some.1
          c.requires.some.2
          c.settle_lanes.ensures.ranks,
    )
