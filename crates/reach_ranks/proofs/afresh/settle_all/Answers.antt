-- The graph's size bounds the work from no ranks.
use Rattle.std.proofs.Common.{arith}
use Rattle.reach_ranks.specs.Rounds.{world_under}
use Rattle.reach_ranks.proofs.SizeLemmas.{work_left-from_zero}
use Rattle.reach_ranks.proofs.afresh.settle_all.Goals as goal

pub returns-clause-steps : goal.returns-clause-steps
returns-clause-steps g c =
    omega (
      arith,
      c.refresh_each.ensures.steps,
      c.settle.ensures.steps,
      work_left-from_zero
          (world_under (g.R.Rows.rows c.args.rows.now) c.args.marks)
          c.args.ranks.now
          c.requires.ranks,
    )
