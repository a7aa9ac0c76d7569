use Rattle.std.proofs.Common.{◌≡◌, ◌≤◌, false}
use Rattle.reach_ranks.specs.Rounds.{world_under}
use Rattle.reach_ranks.proofs.Between.{IsBetween}
use Rattle.reach_ranks.proofs.by_rounds.add_round.Given as goal

abbrev pub invariant-loop-n : goal.invariant-loop-n
invariant-loop-n g l = record {
  between : IsBetween (world_under (g.R.Rows.rows l.fn.rows) l.fn.marks) l.fn.k l.n l.ranks;
  same : l.grew ≡ false → l.ranks ≡ l.initial.ranks;
  later : l.initial.steps ≤ l.steps;
}
