-- What the kept ranks say of the definitions.
use Rattle.std.specs.Prelude.{ℕ, ◌≡◌, Bool, List, None, Option}
use Rattle.graph_store.specs.declared.Row.{Row}
use Rattle.reach_ranks.specs.Rounds.{World, world, reach, IsWhole}
use Rattle.reach_ranks.specs.Ranks.{AreRanks}
use Rattle.milestone_masks.specs.Worlds.{Kept, milestones_of, mask, mask_of, missing_in, ranked, AreWorlds}

-- the nodes that have a rank are those that can be reached
abbrev pub RankedAreReached : Type 0
RankedAreReached = (w : World) (ranks : List ℕ) → IsWhole w → AreRanks w ranks → (n : ℕ) → ranked ranks n ≡ reach w n

-- the mask by the kept ranks is that of the worlds
abbrev pub MasksAreOfTheWorlds : Type 0
MasksAreOfTheWorlds = (rows : List Row) (barred granted : List Bool) (kept : Kept) (node : ℕ)
    → IsWhole (world rows barred granted None) → AreWorlds rows barred granted kept
    → mask_of kept node ≡ mask rows barred granted (milestones_of kept) node

-- what a row lacks by the kept ranks is what it lacks by what can be reached
abbrev pub MissingIsOfTheReached : Type 0
MissingIsOfTheReached = (rows : List Row) (barred granted : List Bool) (kept : Kept) (row : Option Row)
    → IsWhole (world rows barred granted None) → AreWorlds rows barred granted kept
    → missing_in (ranked kept.base) row ≡ missing_in (reach (world rows barred granted None)) row
