use Rattle.std.specs.Prelude.{None}
use Rattle.reach_ranks.specs.Rounds.{world, IsWhole}
use Rattle.milestone_masks.specs.Worlds.{AreWorlds}
use Rattle.rank_bench.proofs.cases.carry_out.Given as goal

abbrev pub invariant-loop-words : goal.invariant-loop-words
invariant-loop-words g l = record {
  next : (goal.iterator-loop-words g).can_next l.words-iterator;
  ends : (goal.iterator-loop-words g).is_finite l.words-iterator;
  marks : IsWhole (world l.graph l.barred l.granted None);
  worlds : AreWorlds l.graph l.barred l.granted l.worlds;
}
