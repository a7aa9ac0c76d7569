-- Who makes what: which goods a recipe or a source gives, who crafts a recipe, who mines a source, which fuels are taken.
-- After the prototype documentation of Factorio 1.1.
use Rattle.std.specs.Prelude.{ℕ, ◌==◌, ◌&&◌, ◌||◌, Bool, false, not, pos, List, Option, Some, None, nat_lt, is_none}
use Rattle.std.specs.List.{list_all, list_any}
use Rattle.fractions.specs.Signs.{is_positive}
use Rattle.fractions.specs.Fraction.{Fraction, ◌+ʳ◌, ◌*ʳ◌, ◌/ʳ◌, whole_fraction}
use Rattle.plan_base.specs.declared.EntityId.{EntityId}
use Rattle.plan_base.specs.declared.RecipeId.{RecipeId}
use Rattle.game_types.specs.declared.recipes.Product.{Product}
use Rattle.game_types.specs.declared.recipes.Recipe.{Recipe}
use Rattle.game_types.specs.declared.recipes.Source.{Source}
use Rattle.game_types.specs.declared.machinery.MachineKind.{MachineKind}
use Rattle.game_types.specs.declared.machinery.MachineKind.TheVariants.{Crafter, Drill}
use Rattle.game_types.specs.declared.machinery.Energy.{Energy}
use Rattle.game_types.specs.declared.machinery.Energy.TheVariants.{Burner}
use Rattle.game_types.specs.declared.goods.Fuel.{Fuel}
use Rattle.game_types.specs.declared.research.Character.{Character}

abbrev pub holds : List ℕ → ℕ → Bool
holds categories category = list_any (λ c. c == category) categories

-- the mean of the least and the most that one craft gives
abbrev pub mean_amount : Product → Fraction
mean_amount product = (product.low +ʳ product.high) /ʳ whole_fraction (pos 2)

-- what one craft is expected to give without productivity
abbrev pub expected_amount : Product → Fraction
expected_amount product = product.probability *ʳ mean_amount product

-- whether some product of this good is expected at all
abbrev pub gives : List Product → ℕ → Bool
gives products good = list_any (λ product. (product.good.0 == good) && is_positive (expected_amount product)) products

-- a machine crafts a recipe of its categories, unless it is fixed to another; a launch is crafted by its silo alone
abbrev pub is_fixed_to_another : Option RecipeId → ℕ → Bool
is_fixed_to_another None recipe = false
is_fixed_to_another (Some fixed) recipe = not (fixed.0 == recipe)

abbrev pub kind_crafts : MachineKind → ℕ → Recipe → Bool
kind_crafts (Crafter speed categories fixed) number recipe = holds categories recipe.category && not (is_fixed_to_another fixed number)
kind_crafts kind number recipe = false

abbrev pub crafts_by : Option EntityId → ℕ → MachineKind → ℕ → Recipe → Bool
crafts_by None machine kind number recipe = kind_crafts kind number recipe
crafts_by (Some silo) machine kind number recipe = silo.0 == machine

-- whether a machine of a kind crafts a recipe, both by their numbers
abbrev pub machine_crafts : ℕ → MachineKind → ℕ → Recipe → Bool
machine_crafts machine kind number recipe = crafts_by recipe.launch machine kind number recipe

-- the character crafts recipes of its categories that have no fluid, where the first goods are the items, and launches nothing
abbrev pub character_crafts : Character → ℕ → Recipe → Bool
character_crafts character items recipe = is_none recipe.launch && (holds character.crafting recipe.category
    && (list_all (λ part. nat_lt part.good.0 items) recipe.ingredients && list_all (λ product. nat_lt product.good.0 items) recipe.products))

-- a drill mines the drilled sources of its categories; where a source needs a fluid the drill has a box for it
abbrev pub kind_mines : MachineKind → Source → Bool
kind_mines (Drill speed categories fluid_box) source = source.drilled && (holds categories source.category && (is_none source.fluid || fluid_box))
kind_mines kind source = false

-- the character mines what no drill is needed for, and drilled sources of its categories that need no fluid
abbrev pub character_mines : Character → Source → Bool
character_mines character source = not source.drilled || (holds character.mining source.category && is_none source.fluid)

-- a burner takes the fuels of its categories whose value is above 0
abbrev pub takes_fuel : Energy → Fuel → Bool
takes_fuel (Burner categories effectivity) fuel = holds categories fuel.category && is_positive fuel.value
takes_fuel energy fuel = false
