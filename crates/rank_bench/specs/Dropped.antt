-- What stays right where a milestone is dropped.
use Rattle.std.specs.Prelude.{Bool, List}
use Rattle.graph_store.specs.declared.Row.{Row}
use Rattle.milestone_masks.specs.Worlds.{Kept, AreWorlds}

-- the ranks that were those of the worlds of a graph are so still
abbrev pub StaysWorlds : Kept → Kept → Type 0
StaysWorlds old new = (rows : List Row) (barred granted : List Bool) → AreWorlds rows barred granted old → AreWorlds rows barred granted new
