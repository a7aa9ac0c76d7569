-- What goods, recipes and sources need.
use Rattle.std.specs.Prelude.{ℕ, ◌+◌, ◌&&◌, Bool, not, List, [], ◌∷◌, ◌++◌, Option, Some, None, is_none, length, if◌then◌else◌}
use Rattle.std.specs.List.{filter_map}
use Rattle.fractions.specs.Fraction.{Fraction}
use Rattle.plan_base.specs.declared.ids.NodeId.{NodeId}
use Rattle.plan_base.specs.declared.ids.EntityId.{EntityId}
use Rattle.plan_base.specs.declared.ids.GoodId.{GoodId}
use Rattle.graph_store.specs.declared.Group.{Group}
use Rattle.graph_store.specs.declared.Row.{Row}
use Rattle.game_types.specs.Temperatures.{fits_alone, fluid_at, is_base, is_fit_variant}
use Rattle.game_types.specs.Making.{character_crafts, character_mines, gives, kind_crafts, kind_mines}
use Rattle.game_types.specs.declared.games.Game.{Game}
use Rattle.game_types.specs.declared.recipes.Part.{Part}
use Rattle.game_types.specs.declared.recipes.Recipe.{Recipe}
use Rattle.game_types.specs.declared.recipes.Source.{Source}
use Rattle.graph_store.specs.Members.{named, those}
use Rattle.depend_index.specs.Goods.{first_machine, first_recipe, first_source, good_count, leavers, putters, unlockers, variants}
use Rattle.depend_rows.specs.Members.{all_of, any_of, character_where, good_node, group_where, row_with}

-- ---- goods
-- the recipes and the sources that give a good
unfoldable pub makers : Game → ℕ → List NodeId
makers g good = those (λ recipe. gives recipe.products good) (first_recipe g) g.recipes
    ++ those (λ source. gives source.products good) (first_source g) g.sources

-- what gives a good. A base is had as any of its variants; an item is left and is not put out, and a fluid is put out and is
-- not left
unfoldable pub givers : Game → ℕ → List NodeId
givers g good = if is_base g good then variants g good ++ makers g good else leavers g good ++ makers g good ++ putters g good

-- a good needs any that gives it
unfoldable pub good_row : Game → ℕ → Row
good_row g good = row_with (any_of (givers g good) ∷ [])

-- ---- recipes
-- whether an ingredient is taken at any temperature
abbrev pub is_free : Part → Bool
is_free part = is_none part.low && is_none part.high

abbrev pub free_good : Part → Option ℕ
free_good part = if is_free part then Some part.good.0 else None

-- the ingredients without a bound
unfoldable pub ingredients : Game → Recipe → List NodeId
ingredients g recipe = named 3 (good_count g) (filter_map free_good recipe.ingredients)

-- the goods that fit an ingredient with a bound: of a base its variants within the bounds, else the good itself where it fits
unfoldable pub fits : Game → Part → List NodeId
fits g part =
    if is_base g part.good.0 then those (is_fit_variant part.good.0 part.low part.high) (3 + length g.items) g.fluids
    else if fits_alone part.low part.high (fluid_at g part.good.0) then named 3 (good_count g) (part.good.0 ∷ [])
    else []

abbrev pub bounded_group : Game → Part → Option Group
bounded_group g part = if is_free part then None else Some (any_of (fits g part))

-- a group for each ingredient with a bound
unfoldable pub bounded_groups : Game → Recipe → List Group
bounded_groups g recipe = filter_map (bounded_group g) recipe.ingredients

-- the character and the machines that craft a recipe; a launch is crafted by its silo alone
abbrev pub crafters_by : Game → ℕ → Recipe → Option EntityId → List NodeId
crafters_by g number recipe None = character_where (character_crafts g.character (length g.items) recipe)
    ++ those (λ machine. kind_crafts machine.kind number recipe) (first_machine g) g.machines
crafters_by g number recipe (Some silo) = named (first_machine g) (length g.machines) (silo.0 ∷ [])

unfoldable pub crafters : Game → ℕ → Recipe → List NodeId
crafters g number recipe = crafters_by g number recipe recipe.launch

-- a recipe needs all its ingredients without a bound, any that fits each of the others, any that crafts it, and where it isn't known from the start any that unlocks it
unfoldable pub recipe_row : Game → ℕ → Recipe → Row
recipe_row g number recipe = row_with (
    all_of (ingredients g recipe)
    ∷ (bounded_groups g recipe ++ (any_of (crafters g number recipe) ∷ group_where (not recipe.enabled) (any_of (unlockers g number)))))

-- ---- sources
-- the character and the drills that mine a source
unfoldable pub miners : Game → Source → List NodeId
miners g source = character_where (character_mines g.character source)
    ++ those (λ machine. kind_mines machine.kind source) (first_machine g) g.machines

abbrev pub fluid_group : Option (GoodId × Fraction) → List Group
fluid_group None = []
fluid_group (Some (fluid, amount)) = all_of (good_node fluid ∷ []) ∷ []

-- a source needs any that mines it, its fluid where it takes one, and what nothing gives where the map hasn't got it
unfoldable pub source_row : Game → Source → Row
source_row g source = row_with (any_of (miners g source) ∷ (fluid_group source.fluid ++ group_where (not source.placed) (any_of [])))
