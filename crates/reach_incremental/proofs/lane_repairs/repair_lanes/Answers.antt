-- Where no changed node's rank is below the floor, no node's is.
use Rattle.reach_incremental.specs.Lanes.{worlds_under}
use Rattle.reach_incremental.proofs.RepairLemmas.{lanes-above, lanes-floor}
use Rattle.reach_incremental.proofs.lane_repairs.repair_lanes.Goals as goal

pub repair_above-requires-clause-floor : goal.repair_above-requires-clause-floor
repair_above-requires-clause-floor g c =
    lanes-floor
    (worlds_under (g.R.Rows.rows c.args.rows.now) c.args.marks)
    c.args.floor.now
    (record { barred = c.requires.marks.barred; granted = c.requires.marks.granted })
    c.requires.floor

pub repair_above-requires-clause-above : goal.repair_above-requires-clause-above
repair_above-requires-clause-above g c =
    lanes-above
    (worlds_under (g.R.Rows.rows c.args.rows.now) c.args.marks)
    c.args.floor.now
    c.args.changed.now
    c.args.ranks.now
    c.live_lanes-live.result
    (record { barred = c.requires.marks.barred; granted = c.requires.marks.granted })
    c.requires.floor
    c.requires.ranks
    c.live_lanes-live.ensures
    c.requires.agree
    (c.are_above.ensures c.if-are_above.true)
