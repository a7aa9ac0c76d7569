-- There is no floor.
use Rattle.reach_ranks.specs.Rounds.{world_under}
use Rattle.reach_ranks.proofs.FloorLemmas.{above_none, no_floor}
use Rattle.reach_ranks.proofs.visits.settle.Goals as goal

pub settle_above-requires-clause-floor : goal.settle_above-requires-clause-floor
settle_above-requires-clause-floor g c =
    no_floor (world_under (g.R.Rows.rows c.args.rows.now) c.args.marks) 4294967295

pub settle_above-requires-clause-above : goal.settle_above-requires-clause-above
settle_above-requires-clause-above g c = above_none c.args.ranks.now
