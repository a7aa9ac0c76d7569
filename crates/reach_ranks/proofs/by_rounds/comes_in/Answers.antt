-- The three ways in which a node comes in or not.
use Rattle.std.proofs.Common.{length, sym, ◌∙◌, ap}
use Rattle.reach_ranks.specs.Rounds.{world_under, has_groups}
use Rattle.reach_ranks.specs.Ranks.{within}
use Rattle.reach_ranks.proofs.RankLemmas.{admits-barred, admits-granted, admits-by_row}
use Rattle.reach_ranks.proofs.Between.{members-of_row}
use Rattle.reach_ranks.proofs.by_rounds.comes_in.Goals as goal

pub returns-then-is_barred-clause-comes : goal.returns-then-is_barred-clause-comes
returns-then-is_barred-clause-comes g c =
    sym (admits-barred
    (world_under (g.R.Rows.rows c.args.rows.now) c.args.marks)
    (within c.args.ranks.now c.args.k)
    c.args.node.0
    (sym c.is_barred.ensures ∙ c.if-is_barred.true))

pub returns-then-marks-node-clause-comes : goal.returns-then-marks-node-clause-comes
returns-then-marks-node-clause-comes g c =
    sym (admits-granted
    (world_under (g.R.Rows.rows c.args.rows.now) c.args.marks)
    (within c.args.ranks.now c.args.k)
    c.args.node.0
    (sym c.is_barred.ensures ∙ c.if-is_barred.false)
    c.if-marks-node.true)

pub satisfies_row-requires : goal.satisfies_row-requires
satisfies_row-requires g c =
    members-of_row
    (length (g.R.Rows.rows c.args.rows.now))
    (length c.args.ranks.now)
    (g.R.Rows.rows c.args.rows.now)
    c.args.node.0
    c.row.result.now
    c.len-count.ensures.members
    c.requires.node
    c.row.ensures.row
    c.requires.ranks

pub returns-clause-comes : goal.returns-clause-comes
returns-clause-comes g c =
    c.satisfies_row.ensures
    ∙ (ap (has_groups (within c.args.ranks.now c.args.k)) (sym c.row.ensures.row)
    ∙ sym (admits-by_row
    (world_under (g.R.Rows.rows c.args.rows.now) c.args.marks)
    (within c.args.ranks.now c.args.k)
    c.args.node.0
    (sym c.is_barred.ensures ∙ c.if-is_barred.false)
    c.if-marks-node.false))
