use Rattle.std.proofs.Common.{◌≡◌, ℕ, ◌<◌, true, false, get_or}
use Rattle.reach_ranks.specs.Floors.{is_above}
use Rattle.reach_incremental.proofs.lane_repairs.is_any_below.Given as goal

abbrev pub invariant-loop-l : goal.invariant-loop-l
invariant-loop-l l = l.any ≡ false → (i : ℕ) → i < l.l → get_or l.live i false ≡ true → is_above l.low (get_or l.ranks i 0) ≡ true
