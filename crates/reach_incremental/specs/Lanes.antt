-- Sixteen worlds side by side: for each node a row of sixteen ranks, one of each world.
use Rattle.std.specs.Prelude.{ℕ, ◌-◌, ◌^◌, ◌<◌, ◌≤◌, ◌≡◌, Bool, true, false, List, Option, None, Some, length, map, slice_index, slice_index_or}
use Rattle.plan_base.specs.declared.NodeId.{NodeId}
use Rattle.graph_store.specs.declared.Row.{Row}
use Rattle.graph_store.specs.Rows.{has_node}
use Rattle.reach_ranks.specs.declared.marks.Marks.{Marks}
use Rattle.reach_ranks.specs.Rounds.{World, world}
use Rattle.reach_ranks.specs.Ranks.{AreRanks, Agrees}
use Rattle.reach_ranks.specs.Floors.{AreAbove, IsFloor}
use Rattle.reach_incremental.specs.declared.lanes.LaneMarks.{LaneMarks}

-- the rows and marks, and for each lane the node that is barred in its world as well
pub record Worlds : Type 0 where
  pub rows : List Row
  pub barred : List Bool
  pub granted : List Bool
  pub extras : List (Option NodeId)

abbrev pub worlds : List Row → List Bool → List Bool → List (Option NodeId) → Worlds
worlds rows barred granted extras = record { rows = rows; barred = barred; granted = granted; extras = extras }

-- the worlds of the rows under the marks, in each of which the node of the lane is barred as well
abbrev pub worlds_with : List Row → Marks → List (Option NodeId) → Worlds
worlds_with rows marks extras = worlds rows marks.barred.now marks.granted.now extras

-- the worlds of the rows under their marks
abbrev pub worlds_under : List Row → LaneMarks → Worlds
worlds_under rows marks = worlds rows marks.barred.now marks.granted.now marks.extras.now

-- the world in which no lane's node is barred as well
abbrev pub base_of : Worlds → World
base_of ws = world ws.rows ws.barred ws.granted None

-- the world of a lane
abbrev pub world_of : Worlds → ℕ → World
world_of ws l = world ws.rows ws.barred ws.granted (slice_index_or ws.extras l None)

abbrev pub is_one : Option NodeId → Bool
is_one None = false
is_one (Some node) = true

-- whether the lane has a node of its own; else it is idle
abbrev pub is_live : Worlds → ℕ → Bool
is_live ws l = is_one (slice_index_or ws.extras l None)

-- these lanes are the live ones
abbrev pub AreLive : Worlds → List Bool → Type 0
AreLive ws live = (l : ℕ) → l < 16 → slice_index_or live l false ≡ is_live ws l

-- the ranks of a lane, by node
abbrev pub lane : ℕ → List (List ℕ) → List ℕ
lane l ranks = map (λ row. slice_index row l) ranks

-- each rank is a number of 32 bits
abbrev pub AreSmall : List (List ℕ) → Type 0
AreSmall ranks = (l n : ℕ) → slice_index (lane l ranks) n ≤ 2 ^ 32 - 1

-- each live lane has the ranks of its world
abbrev pub AreLaneRanks : Worlds → List (List ℕ) → Type 0
AreLaneRanks ws ranks = (l : ℕ) → l < 16 → is_live ws l ≡ true → AreRanks (world_of ws l) (lane l ranks)

-- the floor is one of each live lane's world
abbrev pub IsLaneFloor : Worlds → List ℕ → Type 0
IsLaneFloor ws floor = (l : ℕ) → l < 16 → is_live ws l ≡ true → IsFloor (world_of ws l) (2 ^ 32 - 1) floor

-- no rank of a live lane is earlier than the floor
abbrev pub AreLanesAbove : Worlds → List ℕ → List (List ℕ) → Type 0
AreLanesAbove ws floor ranks = (l : ℕ) → l < 16 → is_live ws l ≡ true → AreAbove floor (lane l ranks)

-- every node outside the list agrees with its row in the world of each live lane
abbrev pub AgreeInLanes : Worlds → List NodeId → List (List ℕ) → Type 0
AgreeInLanes ws changed ranks =
    (l : ℕ) → l < 16 → is_live ws l ≡ true → (n : ℕ) → n < length ws.rows → has_node changed n ≡ false → Agrees (world_of ws l) (lane l ranks) n
