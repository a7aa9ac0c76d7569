use Rattle.std.proofs.Common.{◌≡◌, ℕ, ◌+◌, ◌<◌, drop, take}
use Rattle.std.specs.List.{list_all}
use Rattle.graph_store.specs.Packed.{packed_groups}
use Rattle.reach_ranks.specs.Rounds.{is_satisfied}
use Rattle.reach_ranks.specs.Ranks.{is_one_to, within}
use Rattle.reach_ranks.proofs.given.row_rank.Given as goal

abbrev pub invariant-loop-g : goal.invariant-loop-g
invariant-loop-g l = record {
  left : l.rest ≡ packed_groups (drop l.g l.row.groups);
  so_far : (k : ℕ) → k < 4294967295 → is_one_to (k + 1) l.rank ≡ list_all (λ group. is_satisfied (within l.ranks k) group) (take l.g l.row.groups);
}
