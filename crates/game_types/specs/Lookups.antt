-- What stands at an id of a game. Where nothing does, which comes on no sound game, it counts as a thing that does nothing.
use Rattle.std.specs.Prelude.{pos, false, [], Option, Some, None, slice_index_or}
use Rattle.fractions.specs.Fraction.{zero_fraction}
use Rattle.plan_base.specs.declared.ids.EntityId.{EntityId}
use Rattle.plan_base.specs.declared.ids.GoodId.{GoodId}
use Rattle.plan_base.specs.declared.ids.RecipeId.{RecipeId}
use Rattle.plan_base.specs.declared.ids.SourceId.{SourceId}
use Rattle.game_types.specs.declared.effects.Bonus.{Bonus}
use Rattle.game_types.specs.declared.goods.Item.{Item}
use Rattle.game_types.specs.declared.goods.Module.{Module}
use Rattle.game_types.specs.declared.recipes.Recipe.{Recipe}
use Rattle.game_types.specs.declared.recipes.Source.{Source}
use Rattle.game_types.specs.declared.machinery.Machine.{Machine}
use Rattle.game_types.specs.declared.machinery.MachineKind.TheVariants.{Reactor}
use Rattle.game_types.specs.declared.machinery.Energy.TheVariants.{Void}
use Rattle.game_types.specs.declared.games.Game.{Game}

unfoldable pub no_item : Item
no_item = record { place = None; fuel = None; burnt = None; «module» = None; launch = [] }

unfoldable pub no_bonus : Bonus
no_bonus = record { speed = pos 0; productivity = pos 0; consumption = pos 0; pollution = pos 0 }

unfoldable pub no_module : Module
no_module = record { bonus = no_bonus; limitation = []; blacklist = [] }

unfoldable pub no_recipe : Recipe
no_recipe = record { category = 0; time = zero_fraction; enabled = false; emissions = zero_fraction; ingredients = []; products = []; launch = None }

unfoldable pub no_source : Source
no_source = record { drilled = false; category = 0; time = zero_fraction; placed = false; products = []; fluid = None }

unfoldable pub no_machine : Machine
no_machine = record {
  kind = Reactor;
  energy = Void;
  usage = zero_fraction;
  drain = zero_fraction;
  emissions = zero_fraction;
  slots = 0;
  allowed = record { speed = false; productivity = false; consumption = false; pollution = false };
  base_productivity = zero_fraction;
  parts = 0;
}

unfoldable pub item_at : Game → GoodId → Item
item_at g good = slice_index_or g.items good.0 no_item

unfoldable pub recipe_at : Game → RecipeId → Recipe
recipe_at g recipe = slice_index_or g.recipes recipe.0 no_recipe

unfoldable pub source_at : Game → SourceId → Source
source_at g source = slice_index_or g.sources source.0 no_source

unfoldable pub machine_at : Game → EntityId → Machine
machine_at g machine = slice_index_or g.machines machine.0 no_machine

abbrev pub or_no_module : Option Module → Module
or_no_module (Some module_) = module_
or_no_module None = no_module

-- the module that an item is
unfoldable pub module_at : Game → GoodId → Module
module_at g good = or_no_module (item_at g good).«module»
