-- The rounds end where one has no new node, or at the number of nodes.
use Rattle.std.proofs.Common.{arith}
use Rattle.reach_ranks.specs.Rounds.{world_under}
use Rattle.reach_ranks.proofs.Between.{ranks-at_end, ranks-when_same}
use Rattle.reach_ranks.proofs.by_rounds.add_rounds.Goals as goal

pub returns-then-not-add_round-clause-ranks : goal.returns-then-not-add_round-clause-ranks
returns-then-not-add_round-clause-ranks g c =
    ranks-when_same
    (world_under (g.R.Rows.rows c.args.rows.now) c.args.marks)
    c.requires.marks
    c.loop-k.k
    c.loop-k.ranks
    c.add_round.new.ranks
    (omega arith)
    c.loop-k.invariant.are
    c.add_round.ensures.after
    (c.add_round.ensures.same c.if-not-add_round.true)

pub returns-clause-ranks : goal.returns-clause-ranks
returns-clause-ranks g c =
    ranks-at_end
    (world_under (g.R.Rows.rows c.args.rows.now) c.args.marks)
    c.loop-k.k
    c.loop-k.ranks
    (omega arith)
    c.loop-k.invariant.are
