-- Where a launch is reached.
use Rattle.std.specs.Prelude.{◌≡◌, ◌<◌, ◌+◌, ◌&&◌, Bool, false, List, Option, length}
use Rattle.plan_base.specs.declared.ids.GoodId.{GoodId}
use Rattle.plan_base.specs.declared.ids.NodeId.{NodeId}
use Rattle.plan_base.specs.declared.ids.RecipeId.{RecipeId}
use Rattle.game_types.specs.Lookups.{recipe_at}
use Rattle.game_types.specs.Sound.{IsGood, IsItem}
use Rattle.game_types.specs.declared.games.Game.{Game}
use Rattle.game_types.specs.declared.goods.Item.{Item}
use Rattle.depend_index.specs.Goods.{first_machine, first_recipe}
use Rattle.depend_rows.specs.Rows.{rows_of}
use Rattle.reach_ranks.specs.Rounds.{IsWhole, World, is_barred, is_granted, reach, world}
use Rattle.rocket_launches.specs.Launches.{recipe_with}
use Rattle.rocket_launches.specs.declared.silos.Silo.{Silo}

-- a recipe of the game by which this silo sends up one of this item with the parts of a rocket
pub record IsLaunchOf (g : Game) (recipe : RecipeId) (silo : Silo) (cargo : GoodId) (item : Item) : Type 0 where
  pub there : recipe.0 < length g.recipes
  pub launch : recipe_at g recipe ≡ recipe_with silo cargo item
  pub cargo_there : IsItem g cargo.0
  pub part_there : IsGood g silo.part.0
  pub silo_there : silo.machine.0 < length g.machines

-- the world of a game with these marks, each node having one of each kind, in which the launch has none
pub record LeavesUnmarked (g : Game) (barred granted : List Bool) (extra : Option NodeId) (recipe : RecipeId) : Type 0 where
  pub whole : IsWhole (world (rows_of g) barred granted extra)
  pub allowed : is_barred (world (rows_of g) barred granted extra) (first_recipe g + recipe.0) ≡ false
  pub not_given : is_granted (world (rows_of g) barred granted extra) (first_recipe g + recipe.0) ≡ false

-- the launch is reached exactly where its item, the parts of its rocket and its silo are
abbrev pub IsReachedByParts : World → Game → RecipeId → Silo → GoodId → Type 0
IsReachedByParts w g recipe silo cargo = reach w (first_recipe g + recipe.0) ≡ (reach w (3 + cargo.0) && (reach w (3 + silo.part.0) && reach w (first_machine g + silo.machine.0)))
