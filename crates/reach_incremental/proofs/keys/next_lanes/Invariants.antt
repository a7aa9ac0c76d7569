use Rattle.std.proofs.Common.{◌≡◌, ℕ, ◌<◌, false, length, get_or}
use Rattle.reach_incremental.specs.Keys.{lane_key, next_in_lane}
use Rattle.reach_incremental.proofs.keys.next_lanes.Given as goal

abbrev pub invariant-loop-l : goal.invariant-loop-l
invariant-loop-l l = record {
  long : length l.next ≡ 16;
  done : (i : ℕ) → i < l.l → get_or l.next i 0 ≡ next_in_lane (lane_key (get_or l.live i false) (get_or l.kept i 0) (get_or l.by_row i 0)) (get_or l.kept i 0) l.key;
}
