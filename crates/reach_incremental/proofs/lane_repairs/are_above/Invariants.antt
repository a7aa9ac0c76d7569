use Rattle.std.proofs.Common.{◌≡◌, ℕ, ◌<◌, true, false, get_or, take}
use Rattle.graph_store.specs.Rows.{has_node}
use Rattle.reach_ranks.specs.Floors.{is_above}
use Rattle.reach_incremental.specs.Lanes.{lane}
use Rattle.reach_incremental.proofs.lane_repairs.are_above.Given as goal

abbrev pub invariant-loop-node : goal.invariant-loop-node
invariant-loop-node l = (i : ℕ) → i < 16 → get_or l.live i false ≡ true → (n : ℕ) → has_node (take l.node-index l.nodes) n ≡ true → is_above (get_or l.floor n 0) (get_or (lane i l.ranks) n 0) ≡ true
