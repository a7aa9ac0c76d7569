-- In each lane the node is barred, or its row and the mark of the granted tell.
use Rattle.std.proofs.Common.{◌∙◌}
use Rattle.std.proofs.lemmas.List.{get_or-replicate}
use Rattle.reach_incremental.specs.Lanes.{lane, world_of, worlds_under}
use Rattle.reach_incremental.proofs.KeyLemmas.{given-lane, given-marked}
use Rattle.reach_incremental.proofs.given.given_lanes.Goals as goal

pub returns-then-marks-node-clause-given : goal.returns-then-marks-node-clause-given
returns-then-marks-node-clause-given g c = λ l lt.
    get_or-replicate 16 l 0 0 lt
    ∙ given-marked
    (world_of (worlds_under (g.R.Rows.rows c.args.rows.now) c.args.marks) l)
    4294967295
    (lane l c.args.ranks.now)
    c.args.node.0
    c.if-marks-node.true

pub returns-clause-given : goal.returns-clause-given
returns-clause-given g c = λ l lt.
    given-lane
    (world_of (worlds_under (g.R.Rows.rows c.args.rows.now) c.args.marks) l)
    4294967295
    (lane l c.args.ranks.now)
    c.args.node.0
    _
    _
    (c.free_lanes-lanes.ensures.small l)
    c.if-marks-node.false
    (λ k below. c.free_lanes-lanes.ensures.tests l k lt below)
    (c.bar_extras.ensures l lt)
