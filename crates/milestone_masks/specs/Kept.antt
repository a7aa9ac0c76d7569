-- What holds of the parts of the worlds at all times.
use Rattle.std.specs.Prelude.{ℕ, ◌-◌, ◌^◌, ◌<◌, ◌≤◌, ◌≡◌, List, Option, None, All, length, replicate}
use Rattle.milestone_masks.specs.declared.worlds.Milestone.{Milestone}

-- the heap is empty and for the nodes of the base world, and the milestones are over as many; there are at most 256 milestones
pub record IsKept (heap : List (Option ℕ)) (base : List ℕ) (nodes : ℕ) (milestones : List Milestone) : Type 0 where
  pub few : length base < 2 ^ 32 - 1
  pub nodes_are : nodes ≡ length base
  pub heap_empty : heap ≡ replicate (length base) None
  pub as_long : All (λ m. length m.ranks ≡ length base) milestones
  pub limited : length milestones ≤ 256
