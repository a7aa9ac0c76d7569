-- The milestones as they are kept: the ranks of each in one lane of a block.
use Rattle.std.specs.Prelude.{ℕ, ◌<◌, ◌≤◌, ◌≡◌, ◌==◌, ◌&&◌, Bool, true, List, [], Option, None, Some, All, length, map, slice_get, slice_index_or}
use Rattle.std.specs.List.{list_any}
use Rattle.plan_base.specs.declared.NodeId.{NodeId}
use Rattle.graph_store.specs.declared.Row.{Row}
use Rattle.reach_incremental.specs.Lanes.{is_one, lane, worlds, AreLaneRanks, AreSmall}
use Rattle.reach_incremental.specs.Keys.{lane_sizes}
use Rattle.milestone_masks.specs.declared.worlds.Milestone.{Milestone}
use Rattle.milestone_masks.specs.declared.slots.Slot.{Slot}
use Rattle.milestone_masks.specs.declared.blocks.Block.{Block}

-- how many nodes there are, and the milestones in order
pub record Held : Type 0 where
  pub nodes : ℕ
  pub items : List Milestone

-- the rows of lanes of a block
abbrev pub rows_of : Option Block → List (List ℕ)
rows_of None = []
rows_of (Some block) = block.ranks.items

-- who owns the lanes of a block
abbrev pub extras_of : Option Block → List (Option NodeId)
extras_of None = []
extras_of (Some block) = block.extras

-- the ranks in a lane of a block
abbrev pub ranks_at : List Block → ℕ → ℕ → List ℕ
ranks_at blocks b l = lane l (rows_of (slice_get blocks b))

-- the milestone that has a lane of a block
abbrev pub extra_at : List Block → ℕ → ℕ → Option NodeId
extra_at blocks b l = slice_index_or (extras_of (slice_get blocks b)) l None

-- the milestone of a slot
abbrev pub milestone_of : List Block → Slot → Milestone
milestone_of blocks slot = record { node = slot.node; ranks = ranks_at blocks slot.block slot.lane }

-- the milestones of the slots
abbrev pub milestones_in : List Block → List Slot → List Milestone
milestones_in blocks slots = map (milestone_of blocks) slots

-- whether some slot is a lane of a block
abbrev pub has_slot : List Slot → ℕ → ℕ → Bool
has_slot slots b l = list_any (λ s. s.block == b && s.lane == l) slots

-- each block has a row of lanes for each node
pub record AreBlocks (nodes : ℕ) (blocks : List Block) : Type 0 where
  pub long : (b : ℕ) → b < length blocks → length (rows_of (slice_get blocks b)) ≡ nodes
  pub small : (b : ℕ) → b < length blocks → AreSmall (rows_of (slice_get blocks b))

-- the slots are lanes of the blocks, each lane of a slot has its milestone, and each lane that has one is that of a slot
pub record AreSlots (nodes : ℕ) (blocks : List Block) (slots : List Slot) : Type 0 where
  pub blocks_are : AreBlocks nodes blocks
  pub inside : All (λ s. (s.block < length blocks) × (s.lane < 16)) slots
  pub extras : All (λ s. extra_at blocks s.block s.lane ≡ Some s.node) slots
  pub owned : (b l : ℕ) → b < length blocks → l < 16 → is_one (extra_at blocks b l) ≡ true → has_slot slots b l ≡ true

-- the first blocks are as before, and the lanes of the others are idle
pub record Grows (nodes : ℕ) (old new : List Block) : Type 0 where
  pub longer : length old ≤ length new
  pub same : (b : ℕ) → b < length old → slice_get new b ≡ slice_get old b
  pub idle : (b l : ℕ) → length old ≤ b → extra_at new b l ≡ None
  pub blocks_are : AreBlocks nodes new

-- the lane of a block has a milestone and its ranks, and the other lanes are as before
pub record Occupies (nodes b l : ℕ) (node : NodeId) (ranks : List ℕ) (old new : List Block) : Type 0 where
  pub as_long : length new ≡ length old
  pub extra_here : extra_at new b l ≡ Some node
  pub ranks_here : ranks_at new b l ≡ ranks
  pub extra_others : (c m : ℕ) → (c ≡ b → m ≡ l → ⊥) → extra_at new c m ≡ extra_at old c m
  pub ranks_others : (c m : ℕ) → (c ≡ b → m ≡ l → ⊥) → ranks_at new c m ≡ ranks_at old c m
  pub blocks_are : AreBlocks nodes new

-- the first blocks again, with the same ranks and milestones in their lanes
pub record AreCopies (k : ℕ) (old new : List Block) : Type 0 where
  pub as_long : length new ≡ k
  pub rows : (b : ℕ) → b < k → rows_of (slice_get new b) ≡ rows_of (slice_get old b)
  pub extras : (b : ℕ) → b < k → extras_of (slice_get new b) ≡ extras_of (slice_get old b)

-- the first blocks have the ranks of their worlds, and the others are as before
pub record AreRepaired (rows : List Row) (barred granted : List Bool) (k : ℕ) (old new : List Block) : Type 0 where
  pub as_long : length new ≡ length old
  pub extras : (b : ℕ) → b < length old → extras_of (slice_get new b) ≡ extras_of (slice_get old b)
  pub left : (b : ℕ) → k ≤ b → b < length old → slice_get new b ≡ slice_get old b
  pub done : (b : ℕ) → b < k → b < length old → AreLaneRanks (worlds rows barred granted (extras_of (slice_get old b))) (rows_of (slice_get new b))
  pub blocks_are : AreBlocks (length rows) new

-- the size of a change in the worlds of a block
abbrev pub size_in_block : List Row → List Bool → List Bool → List NodeId → List Block → List Block → ℕ → ℕ
size_in_block rows barred granted changed old new b =
    lane_sizes (worlds rows barred granted (extras_of (slice_get old b))) changed (rows_of (slice_get old b)) (rows_of (slice_get new b))
