use Rattle.std.proofs.Common.{◌≡◌, ℕ, ◌<◌, None, false, length, get_or}
use Rattle.reach_incremental.specs.Lanes.{is_one}
use Rattle.reach_incremental.proofs.lane_repairs.live_lanes.Given as goal

abbrev pub invariant-loop-l : goal.invariant-loop-l
invariant-loop-l l = record {
  long : length l.live ≡ 16;
  done : (i : ℕ) → i < l.l → get_or l.live i false ≡ is_one (get_or l.extras i None);
}
