-- What a run has before the first line of its script is answered.
use Rattle.std.specs.Prelude.{◌≡◌, ◌≤◌, ℕ, List, Option}
use Rattle.plan_io.specs.Store.{Shelf}
use Rattle.game_types.specs.declared.games.Game.{Game}
use Rattle.planner_core.specs.Lines.{Planned, first_planned}
use Rattle.run_inputs.specs.Base.{load_work}
use Rattle.run_inputs.specs.Inputs.{IsBase, IsScript}
use Rattle.run_inputs.specs.Words.{Asked}

-- a planner of the game of the dump, which has taken so many steps to load, and the script that it is to answer
pub record IsReady (shelf : Shelf) (asked : Option Asked) (first : Planned) (script : List ℕ) (work : ℕ) : Type 0 where
  pub game : Game
  pub base : IsBase shelf asked game
  pub first_is : first ≡ first_planned game
  pub script_is : IsScript shelf asked script
  pub takes : work ≤ load_work game
