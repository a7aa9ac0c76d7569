use Rattle.milestone_masks.specs.Worlds.{AreWorlds}
use Rattle.rank_bench.proofs.worlds.add_worlds.Given as goal

abbrev pub invariant-loop : goal.invariant-loop
invariant-loop l = AreWorlds l.graph l.barred l.granted l.worlds
