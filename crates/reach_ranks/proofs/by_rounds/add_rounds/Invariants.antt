use Rattle.std.proofs.Common.{◌≤◌}
use Rattle.reach_ranks.specs.Rounds.{world_under}
use Rattle.reach_ranks.specs.Ranks.{AreRanksTo}
use Rattle.reach_ranks.proofs.by_rounds.add_rounds.Given as goal

abbrev pub invariant-loop-k : goal.invariant-loop-k
invariant-loop-k g l = record {
  are : AreRanksTo (world_under (g.R.Rows.rows l.fn.rows) l.fn.marks) l.k l.ranks;
  later : l.initial.steps ≤ l.steps;
}
