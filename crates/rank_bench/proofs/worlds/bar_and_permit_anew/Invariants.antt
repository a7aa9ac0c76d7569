use Rattle.std.specs.Prelude.{None}
use Rattle.reach_ranks.specs.Rounds.{world, IsWhole}
use Rattle.rank_bench.proofs.worlds.bar_and_permit_anew.Given as goal

abbrev pub invariant-loop : goal.invariant-loop
invariant-loop l = IsWhole (world l.graph l.barred l.granted None)
