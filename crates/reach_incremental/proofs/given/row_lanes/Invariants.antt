use Rattle.std.proofs.Common.{◌≡◌, ℕ, ◌+◌, ◌<◌, drop, get_or, take}
use Rattle.std.specs.List.{list_all}
use Rattle.graph_store.specs.Packed.{packed_groups}
use Rattle.reach_ranks.specs.Rounds.{is_satisfied}
use Rattle.reach_ranks.specs.Ranks.{is_one_to, within}
use Rattle.reach_incremental.specs.Lanes.{lane}
use Rattle.reach_incremental.proofs.given.row_lanes.Given as goal

abbrev pub invariant-loop-g : goal.invariant-loop-g
invariant-loop-g l = record {
  left : l.rest ≡ packed_groups (drop l.g l.row.groups);
  so_far : (i k : ℕ) → i < 16 → k < 4294967295 → is_one_to (k + 1) (get_or l.lanes i 0) ≡ list_all (λ group. is_satisfied (within (lane i l.ranks) k) group) (take l.g l.row.groups);
}
