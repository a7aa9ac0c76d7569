use Rattle.std.proofs.Common.{◌≡◌, ℕ, ◌+◌, ◌<◌, get_or, take}
use Rattle.std.specs.List.{list_all}
use Rattle.reach_ranks.specs.Ranks.{is_one_to, within}
use Rattle.reach_incremental.specs.Lanes.{lane}
use Rattle.reach_incremental.proofs.given.all_lanes.Given as goal

abbrev pub invariant-loop-m : goal.invariant-loop-m
invariant-loop-m l =
    (i k : ℕ) → i < 16 → k < 4294967295 → is_one_to (k + 1) (get_or l.lanes i 0) ≡ list_all (within (lane i l.ranks) k) (take l.m-index l.members)
