-- The three ways in which a node gets its rank.
use Rattle.std.proofs.Common.{length, sym, ◌∙◌, arith}
use Rattle.reach_ranks.specs.Rounds.{world_under}
use Rattle.reach_ranks.proofs.Between.{members-of_row}
use Rattle.reach_ranks.proofs.GivenLemmas.{given-barred, given-granted, given-by_row}
use Rattle.reach_ranks.proofs.given.given_rank.Goals as goal

pub returns-then-is_barred-clause-given : goal.returns-then-is_barred-clause-given
returns-then-is_barred-clause-given g c =
    given-barred
    (world_under (g.R.Rows.rows c.args.rows.now) c.args.marks)
    4294967295
    c.args.ranks.now
    c.args.node.0
    (sym c.is_barred.ensures ∙ c.if-is_barred.true)

pub returns-then-marks-node-clause-given : goal.returns-then-marks-node-clause-given
returns-then-marks-node-clause-given g c =
    given-granted
    (world_under (g.R.Rows.rows c.args.rows.now) c.args.marks)
    4294967295
    c.args.ranks.now
    c.args.node.0
    (omega arith)
    (sym c.is_barred.ensures ∙ c.if-is_barred.false)
    c.if-marks-node.true

pub row_rank-requires : goal.row_rank-requires
row_rank-requires g c =
    members-of_row
    (length (g.R.Rows.rows c.args.rows.now))
    (length c.args.ranks.now)
    (g.R.Rows.rows c.args.rows.now)
    c.args.node.0
    c.packed.result.now
    c.len-count.ensures.members
    c.requires.node
    c.packed.ensures.row
    c.requires.ranks

pub returns-clause-given : goal.returns-clause-given
returns-clause-given g c =
    given-by_row
    (world_under (g.R.Rows.rows c.args.rows.now) c.args.marks)
    4294967295
    c.args.ranks.now
    c.args.node.0
    c.row_rank.result
    c.packed.result.now
    (omega arith)
    (sym c.is_barred.ensures ∙ c.if-is_barred.false)
    c.if-marks-node.false
    c.packed.ensures.row
    c.row_rank.ensures
