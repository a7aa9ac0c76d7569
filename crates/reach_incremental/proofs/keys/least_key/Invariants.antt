use Rattle.std.proofs.Common.{◌≡◌, false, get_or}
use Rattle.reach_incremental.specs.Keys.{lane_key, least_below}
use Rattle.reach_incremental.proofs.keys.least_key.Given as goal

abbrev pub invariant-loop-l : goal.invariant-loop-l
invariant-loop-l l = l.least ≡ least_below (λ i. lane_key (get_or l.live i false) (get_or l.kept i 0) (get_or l.by_row i 0)) l.l
