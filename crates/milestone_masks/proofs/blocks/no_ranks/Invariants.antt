use Rattle.std.proofs.Common.{◌≡◌, length}
use Rattle.reach_incremental.specs.Lanes.{AreSmall}
use Rattle.milestone_masks.proofs.blocks.no_ranks.Given as goal

abbrev pub invariant-loop : goal.invariant-loop
invariant-loop l = record {
  long : length l.ranks.items ≡ l.counter;
  small : AreSmall l.ranks.items;
}
