-- What machines and fuels are about, taken apart: by category, and by recipe.
use Rattle.std.specs.Prelude.{ℕ, ◌==◌, ◌&&◌, ◌||◌, Bool, false, true, not, List, Option, Some, None, is_none, slice_get}
use Rattle.plan_base.specs.declared.ids.RecipeId.{RecipeId}
use Rattle.depend_index.specs.Machines.{names_good}
use Rattle.game_types.specs.Making.{holds}
use Rattle.fractions.specs.Signs.{is_positive}
use Rattle.game_types.specs.declared.goods.Fuel.{Fuel}
use Rattle.game_types.specs.declared.machinery.MachineKind.{MachineKind}
use Rattle.game_types.specs.declared.machinery.MachineKind.TheVariants.{Crafter, Drill, Lab}
use Rattle.game_types.specs.declared.recipes.Recipe.{Recipe}

-- a machine that crafts all recipes of a category
abbrev pub crafts_all_of : MachineKind → ℕ → Bool
crafts_all_of (Crafter speed categories fixed) category = holds categories category && is_none fixed
crafts_all_of kind category = false

abbrev pub has_category : List ℕ → Option Recipe → Bool
has_category categories None = false
has_category categories (Some recipe) = holds categories recipe.category

abbrev pub is_recipe : Option RecipeId → ℕ → Bool
is_recipe None number = false
is_recipe (Some r) number = r.0 == number

-- a machine that is fixed to a recipe, which is of its categories
abbrev pub crafts_alone : List Recipe → MachineKind → ℕ → Bool
crafts_alone recipes (Crafter speed categories fixed) number = is_recipe fixed number && has_category categories (slice_get recipes number)
crafts_alone recipes kind number = false

-- a drill of a category, with a box for a fluid where one is wanted
abbrev pub is_drill_of : Bool → MachineKind → ℕ → Bool
is_drill_of boxed (Drill speed categories fluid_box) category = holds categories category && (not boxed || fluid_box)
is_drill_of boxed kind category = false

-- a fuel of a category that has any energy
abbrev pub is_fuel_of : Option Fuel → ℕ → Bool
is_fuel_of None category = false
is_fuel_of (Some fuel) category = (fuel.category == category) && is_positive fuel.value

abbrev pub is_lab : MachineKind → Bool
is_lab (Lab inputs speed) = true
is_lab kind = false

-- a lab one of whose inputs is this good
abbrev pub takes : MachineKind → ℕ → Bool
takes (Lab inputs speed) good = names_good inputs good
takes kind good = false
