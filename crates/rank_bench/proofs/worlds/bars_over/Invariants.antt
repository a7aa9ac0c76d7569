use Rattle.std.specs.Prelude.{None}
use Rattle.reach_ranks.specs.Rounds.{world, IsWhole}
use Rattle.milestone_masks.specs.Worlds.{AreWorlds}
use Rattle.rank_bench.proofs.worlds.bars_over.Given as goal

abbrev pub invariant-loop : goal.invariant-loop
invariant-loop l = record {
  marks : IsWhole (world l.graph l.barred l.granted None);
  worlds : AreWorlds l.graph l.barred l.granted l.worlds;
}
