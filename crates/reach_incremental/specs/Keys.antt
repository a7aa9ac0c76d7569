-- One key a node, for all lanes.
use Rattle.std.specs.Prelude.{ℕ, zero, suc, ◌+◌, ◌-◌, ◌^◌, ◌<◌, ◌==◌, ◌≡◌, Bool, true, false, List, Option, None, Some, if◌then◌else◌, length, min, slice_index}
use Rattle.plan_base.specs.declared.NodeId.{NodeId}
use Rattle.graph_store.specs.Rows.{has_node}
use Rattle.index_heap.specs.Keys.{key_at}
use Rattle.reach_ranks.specs.Given.{given, lesser, next_kept, is_by, is_same_key, size_of, sum_below, work_left, HoldsBounds, GivesKeys}
use Rattle.reach_incremental.specs.Lanes.{Worlds, world_of, is_live, lane, AreSmall}

-- the least of the numbers below m, where 0 is above all others
unfoldable pub least_below : (ℕ → ℕ) → ℕ → ℕ
least_below f zero = 0
least_below f (suc m) = lesser (least_below f m) (f m)

-- the key of a node in one lane: 0, for none, where the lane is idle, or keeps the rank that the row gives
abbrev pub lane_key : Bool → ℕ → ℕ → ℕ
lane_key live kept by_row = if live then (if kept == by_row then 0 else lesser kept by_row) else 0

-- the key that a number stands for
abbrev pub as_key : ℕ → Option ℕ
as_key k = if k == 0 then None else Some k

-- the key of a node in one lane, by these ranks
abbrev pub key_in_lane : Worlds → List (List ℕ) → ℕ → ℕ → ℕ
key_in_lane ws ranks n l = lane_key (is_live ws l) (slice_index (lane l ranks) n) (given (world_of ws l) (2 ^ 32 - 1) (lane l ranks) n)

-- the key of a node: the least of the live lanes
unfoldable pub right_key : Worlds → List (List ℕ) → ℕ → Option ℕ
right_key ws ranks n = as_key (least_below (key_in_lane ws ranks n) 16)

-- in each live lane, each node whose kept rank is not the given one has a key no later than the lesser of the two
pub record HoldsLanes (ws : Worlds) (ranks : List (List ℕ)) (heap : List (Option ℕ)) : Type 0 where
  pub ranks_long : length ranks ≡ length ws.rows
  pub heap_long : length heap ≡ length ws.rows
  pub small : AreSmall ranks
  pub each : (l : ℕ) → l < 16 → is_live ws l ≡ true → HoldsBounds (world_of ws l) (2 ^ 32 - 1) (lane l ranks) heap

-- each of the nodes has its key, and the other nodes keep theirs
pub record RefreshesLanes (ws : Worlds) (ranks : List (List ℕ)) (nodes : List NodeId) (old new : List (Option ℕ)) : Type 0 where
  pub as_long : length new ≡ length old
  pub at_nodes : (n : ℕ) → n < length ws.rows → has_node nodes n ≡ true → key_at new n ≡ right_key ws ranks n
  pub others : (n : ℕ) → has_node nodes n ≡ false → key_at new n ≡ key_at old n

-- the earlier of a key and a rank, where the rank 0 is none
abbrev pub sooner : Option ℕ → ℕ → Option ℕ
sooner None rank = if rank == 0 then None else Some rank
sooner (Some key) rank = if rank == 0 then Some key else Some (min key rank)

-- the key of a user where some lane gets its rank: one that has none needs one where it is late
abbrev pub key_when_some_come : Option ℕ → ℕ → Bool → Option ℕ
key_when_some_come None next late = if late then Some next else None
key_when_some_come (Some key) next late = Some (min key next)

-- what a node that was taken out under a key gets in a lane: its next rank where that is the lane's key, and else what it has
abbrev pub next_in_lane : ℕ → ℕ → ℕ → ℕ
next_in_lane own kept key = if own == key then next_kept kept key else kept

-- the keys after a node got other ranks: no node's is later, and the users' are early enough in each lane whose rank is another
pub record GivesLaneKeys (key : ℕ) (floor : List ℕ) (ranks : List (List ℕ)) (was is : List ℕ) (nodes : List NodeId) (old new : List (Option ℕ)) : Type 0 where
  pub as_long : length new ≡ length old
  pub lower : (n : ℕ) → is_by (key_at new n) (key_at old n) ≡ true
  pub others : (n : ℕ) → has_node nodes n ≡ false → key_at new n ≡ key_at old n
  pub each : (l : ℕ) → l < 16 → (slice_index was l == slice_index is l) ≡ false → GivesKeys (slice_index is l == key) key floor (lane l ranks) nodes old new

-- how many nodes have a key that isn't the right one
unfoldable pub early_keys : Worlds → List (List ℕ) → List (Option ℕ) → ℕ
early_keys ws ranks heap = sum_below (λ n. if is_same_key (key_at heap n) (right_key ws ranks n) then 0 else 1) (length ws.rows)

-- the steps that are still to be taken for each live lane
unfoldable pub lane_work : Worlds → List (List ℕ) → ℕ
lane_work ws ranks = sum_below (λ l. if is_live ws l then work_left (world_of ws l) (lane l ranks) else 0) 16

-- the same, where each key that isn't right takes one more
abbrev pub left_in_lanes : Worlds → List (List ℕ) → List (Option ℕ) → ℕ
left_in_lanes ws ranks heap = lane_work ws ranks + early_keys ws ranks heap

-- the sizes of a change in the worlds of the live lanes
unfoldable pub lane_sizes : Worlds → List NodeId → List (List ℕ) → List (List ℕ) → ℕ
lane_sizes ws changed before after =
    sum_below (λ l. if is_live ws l then size_of ws.rows changed (lane l before) (lane l after) else 0) 16
