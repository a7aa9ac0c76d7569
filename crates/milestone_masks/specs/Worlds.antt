-- The worlds of the milestones.
use Rattle.std.specs.Prelude.{ℕ, ◌+◌, ◌<◌, ◌≤◌, ◌≡◌, ◌==◌, Bool, not, List, [], Option, None, Some, Result, Ok, Err, IsSome, All, filter, insert, length, map, nat_lt, position, slice_get, slice_index}
use Rattle.plan_base.specs.declared.NodeId.{NodeId}
use Rattle.graph_store.specs.declared.Row.{Row}
use Rattle.graph_store.specs.declared.Group.{Group}
use Rattle.reach_ranks.specs.Rounds.{World, Nodes, world, reach, is_satisfied}
use Rattle.reach_ranks.specs.Ranks.{AgreeBut, AreRanks}
use Rattle.reach_ranks.specs.Given.{size_of, sum_below}
use Rattle.milestone_masks.specs.declared.worlds.Milestone.{Milestone}
use Rattle.milestone_masks.specs.declared.worlds.MilestoneFault.{MilestoneFault}
use Rattle.milestone_masks.specs.declared.worlds.MilestoneFault.TheVariants.{NoMemory, Full, Already, NotOne}

-- the ranks of the base world, and the milestones in order, each with the ranks of its world
pub record Kept : Type 0 where
  pub base : List ℕ
  pub milestones : List Milestone

-- the milestones, in order
abbrev pub milestones_of : Kept → List NodeId
milestones_of kept = map (λ m. m.node) kept.milestones

-- the place of a milestone in their order
abbrev pub place_of : List Milestone → ℕ → Option ℕ
place_of milestones node = position (λ m. m.node.0 == node) milestones

-- in the base world, and in each milestone's world, in which it is barred as well
pub record AreWorlds (rows : List Row) (barred granted : List Bool) (kept : Kept) : Type 0 where
  pub base : AreRanks (world rows barred granted None) kept.base
  pub each : All (λ m. AreRanks (world rows barred granted (Some m.node)) m.ranks) kept.milestones

-- every node outside the list agrees with its row in the base world and in each milestone's world
pub record AgreeInWorlds (rows : List Row) (barred granted : List Bool) (changed : List NodeId) (kept : Kept) : Type 0 where
  pub base : AgreeBut (world rows barred granted None) changed kept.base
  pub each : All (λ m. AgreeBut (world rows barred granted (Some m.node)) changed m.ranks) kept.milestones

-- the ranks of a milestone, where there is one
abbrev pub ranks_of : Option Milestone → List ℕ
ranks_of None = []
ranks_of (Some m) = m.ranks

-- the size of a change in the world of the k-th milestone
abbrev pub size_in_world : List Row → List NodeId → List Milestone → List Milestone → ℕ → ℕ
size_in_world rows changed before after k =
    size_of rows changed (ranks_of (slice_get before k)) (ranks_of (slice_get after k))

-- the size of a change, over the base world and each milestone's world
abbrev pub size_of_all : List Row → List NodeId → Kept → Kept → ℕ
size_of_all rows changed before after =
    size_of rows changed before.base after.base
    + sum_below (size_in_world rows changed before.milestones after.milestones) (length before.milestones)

-- the nodes that have a rank
abbrev pub ranked : List ℕ → Nodes
ranked ranks n = nat_lt 0 (slice_index ranks n)

-- the milestones in whose world the node has no rank, in order
abbrev pub mask_of : Kept → ℕ → List NodeId
mask_of kept node = map (λ m. m.node) (filter (λ m. not (ranked m.ranks node)) kept.milestones)

-- the milestones in whose world the node isn't reached, in order
abbrev pub mask : List Row → List Bool → List Bool → List NodeId → ℕ → List NodeId
mask rows barred granted milestones node =
    filter (λ m. not (reach (world rows barred granted (Some m)) node)) milestones

-- of the row's groups those that aren't satisfied in the set, each with its members outside the set
abbrev pub missing_in : Nodes → Option Row → List Group
missing_in set None = []
missing_in set (Some row) =
    map (λ g. record { all = g.all; members = filter (λ m. not (set m.0)) g.members }) (filter (λ g. not (is_satisfied set g)) row.groups)

-- why a milestone was added or not: it was one already, or else there were 256, as many as there can be
abbrev pub AddAnswer : Result (Unit {0}) MilestoneFault → List Milestone → ℕ → Type 0
AddAnswer (Ok _) milestones node = (place_of milestones node ≡ None) × (length milestones < 256)
AddAnswer (Err NoMemory) milestones node = (place_of milestones node ≡ None) × (length milestones < 256)
AddAnswer (Err Full) milestones node = (place_of milestones node ≡ None) × (256 ≤ length milestones)
AddAnswer (Err Already) milestones node = IsSome (place_of milestones node)
AddAnswer (Err NotOne) milestones node = ⊥

-- one milestone more at a place, with the ranks of its world
pub record AddsWorld (w : World) (node : NodeId) (place : ℕ) (old new : List Milestone) : Type 0 where
  pub ranks : List ℕ
  pub are : AreRanks w ranks
  pub items : new ≡ insert old place (record { node = node; ranks = ranks })
