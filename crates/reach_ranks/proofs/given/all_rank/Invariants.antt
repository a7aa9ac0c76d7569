use Rattle.std.proofs.Common.{◌≡◌, ℕ, ◌+◌, ◌<◌, take}
use Rattle.std.specs.List.{list_all}
use Rattle.reach_ranks.specs.Ranks.{is_one_to, within}
use Rattle.reach_ranks.proofs.given.all_rank.Given as goal

abbrev pub invariant-loop-m : goal.invariant-loop-m
invariant-loop-m l =
    (k : ℕ) → k < 4294967295 → is_one_to (k + 1) l.rank ≡ list_all (within l.ranks k) (take l.m-index l.members)
