-- The ranks of a planning state: what the planner keeps beside it, so that it answers at once.
use Rattle.std.specs.Prelude.{◌≡◌, ℕ, Bool, List, Option, None, Some, length, map}
use Rattle.std.specs.List.{range_with_len}
use Rattle.plan_base.specs.declared.ids.NodeId.{NodeId}
use Rattle.graph_store.specs.declared.Row.{Row}
use Rattle.reach_ranks.specs.Rounds.{World, reach, world}
use Rattle.reach_ranks.specs.Ranks.{rank}
use Rattle.data_edit.specs.declared.books.Book.{Book}
use Rattle.depend_rows.specs.Rows.{rows_of}
use Rattle.milestone_masks.specs.declared.worlds.Milestone.{Milestone}
use Rattle.milestone_masks.specs.Worlds.{AreWorlds, Kept, mask, milestones_of}
use Rattle.state_changes.specs.States.{State, AreSoundMilestones}

-- the world in which the marks bar, and one more node where there is one
abbrev pub world_of : Book → Option NodeId → World
world_of book extra = world (rows_of book.game) book.barred book.granted extra

-- whether a node is reached in the base world
abbrev pub is_reached : Book → ℕ → Bool
is_reached book n = reach (world_of book None) n

-- the number of the first round of the base world that holds the node, and 0 where none does
abbrev pub rank_of : Book → ℕ → ℕ
rank_of book n = rank (world_of book None) n

-- the milestones that a node needs, in order
abbrev pub mask_in : State → ℕ → List NodeId
mask_in s n = mask (rows_of s.book.game) s.book.barred s.book.granted s.milestones n

-- the rank of each node
unfoldable pub ranks_in : World → List ℕ
ranks_in w = map (rank w) (range_with_len 0 (length w.rows))

-- a milestone with the ranks of its world
abbrev pub milestone_in : Book → NodeId → Milestone
milestone_in book node = record { node = node; ranks = ranks_in (world_of book (Some node)) }

-- the ranks of the base world and of the world of each milestone
unfoldable pub worlds_of : State → Kept
worlds_of s = record { base = ranks_in (world_of s.book None); milestones = map (milestone_in s.book) s.milestones }

-- What is kept is that of a sound book and its milestones: the rows are the dependency rows of the game, and the ranks are those of the
-- definitions, in the base world and in each milestone's world.
pub record IsKept (book : Book) (rows : List Row) (kept : Kept) : Type 0 where
  pub sound : AreSoundMilestones book (milestones_of kept)
  pub rows_are : rows ≡ rows_of book.game
  pub worlds : AreWorlds (rows_of book.game) book.barred book.granted kept
