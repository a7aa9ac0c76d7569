-- The second pass over a dump: each name becomes the number of what it names. There is a table for each kind of prototype, with
-- a line for each field that names something, in the order in which the fields are read. A name that stands for nothing is a
-- fault of its field; `place_result`, `limitation` and `limitation_blacklist` pass over it.
use Rattle.std.specs.Prelude.{ℕ, ◌+◌, if◌then◌else◌, List, [], ◌∷◌, Option, Some, None, Result, Ok, Err, length, option_map, option_and_then}
use Rattle.std.specs.List.{filter_map}
use Rattle.fractions.specs.Fraction.{Fraction}
use Rattle.plan_base.specs.declared.ids.EntityId.{EntityId}
use Rattle.plan_base.specs.declared.ids.GoodId.{GoodId}
use Rattle.plan_base.specs.declared.ids.RecipeId.{RecipeId}
use Rattle.plan_base.specs.declared.ids.TechId.{TechId}
use Rattle.name_table.specs.Names.{place_of}
use Rattle.prototype_fields.specs.declared.fault.FieldCode.TheVariants.{UnknownName}
use Rattle.prototype_fields.specs.declared.fault.FieldFault.{FieldFault}
use Rattle.prototype_fields.specs.declared.names.Key.{Key}
use Rattle.prototype_fields.specs.declared.names.Key.TheVariants.{BurntResult, RequiredFluid, FixedRecipe, Filter, Inputs, Prerequisites, Name, Recipe as RecipeKey, Fluid as FluidKey}
use Rattle.prototype_fields.specs.declared.names.Within.{Within}
use Rattle.prototype_fields.specs.declared.names.Within.TheVariants as within
use Rattle.prototype_fields.specs.Values.{Reading, ◌▸◌, each}
use Rattle.craft_reader.specs.declared.fault.DumpFault.{DumpFault}
use Rattle.craft_reader.specs.declared.goods.GoodKind.{GoodKind}
use Rattle.craft_reader.specs.declared.goods.GoodKind.TheVariants as good_kind
use Rattle.craft_reader.specs.declared.goods.NamedGood.{NamedGood}
use Rattle.craft_reader.specs.declared.goods.RawPack.{RawPack}
use Rattle.craft_reader.specs.declared.goods.RawPart.{RawPart}
use Rattle.craft_reader.specs.declared.given.RawProduct.{RawProduct}
use Rattle.craft_reader.specs.declared.recipes.RawRecipe.{RawRecipe}
use Rattle.craft_reader.specs.declared.technologies.RawTech.{RawTech}
use Rattle.craft_reader.specs.Faults.{in_prototype}
use Rattle.game_types.specs.declared.games.Game.{Game}
use Rattle.game_types.specs.declared.goods.Item.{Item}
use Rattle.game_types.specs.declared.goods.Module.{Module}
use Rattle.game_types.specs.declared.machinery.Energy.{Energy}
use Rattle.game_types.specs.declared.machinery.Energy.TheVariants as energy
use Rattle.game_types.specs.declared.machinery.Machine.{Machine}
use Rattle.game_types.specs.declared.machinery.MachineKind.{MachineKind}
use Rattle.game_types.specs.declared.machinery.MachineKind.TheVariants as kind
use Rattle.game_types.specs.declared.recipes.Part.{Part}
use Rattle.game_types.specs.declared.recipes.Product.{Product}
use Rattle.game_types.specs.declared.recipes.Recipe.{Recipe}
use Rattle.game_types.specs.declared.recipes.Source.{Source}
use Rattle.game_types.specs.declared.research.Tech.{Tech}
use Rattle.machine_reader.specs.declared.raw.RawEnergy.{RawEnergy}
use Rattle.machine_reader.specs.declared.raw.RawEnergy.TheVariants as raw_energy
use Rattle.dump_reader.specs.declared.raw.RawItem.{RawItem}
use Rattle.machine_reader.specs.declared.raw.RawKind.{RawKind}
use Rattle.machine_reader.specs.declared.raw.RawKind.TheVariants as raw_kind
use Rattle.machine_reader.specs.declared.raw.RawMachine.{RawMachine}
use Rattle.dump_reader.specs.declared.raw.RawModule.{RawModule}
use Rattle.dump_reader.specs.declared.raw.RawSource.{RawSource}
use Rattle.machine_reader.specs.declared.sections.Section.{Section}
use Rattle.machine_reader.specs.declared.sections.Section.TheVariants as section
use Rattle.dump_reader.specs.Draft.{RawGame}
use Rattle.dump_reader.specs.Dump.{◌▷◌}
use Rattle.machine_reader.specs.Sections.{section_text}
use Rattle.game_reader.specs.declared.families.Families.{Families}

-- ---- names
-- the number that a name stands for, or the fault of the field that names it
abbrev pub unknown_name : Within → Key → FieldFault
unknown_name within key = record { code = UnknownName; within = within; key = Some key }

abbrev pub or_unknown : {A : Type 0} → Within → Key → Option A → Reading A
or_unknown within key None = Err (unknown_name within key)
or_unknown within key (Some number) = Ok number

-- a number is the place among the names of its kind; as goods, items come before fluids
abbrev pub good_at : ℕ → GoodId
good_at place = record { 0 = place }

abbrev pub recipe_at : ℕ → RecipeId
recipe_at place = record { 0 = place }

abbrev pub machine_at : ℕ → EntityId
machine_at place = record { 0 = place }

abbrev pub tech_at : ℕ → TechId
tech_at place = record { 0 = place }

unfoldable pub item_named : Families → Within → Key → List ℕ → Reading GoodId
item_named names within key name = or_unknown within key (option_map good_at (place_of names.items name))

unfoldable pub fluid_named : Families → Within → Key → List ℕ → Reading GoodId
fluid_named names within key name = or_unknown within key (option_map (λ place. good_at (length names.items + place)) (place_of names.fluids name))

unfoldable pub recipe_named : Families → Within → Key → List ℕ → Reading RecipeId
recipe_named names within key name = or_unknown within key (option_map recipe_at (place_of names.recipes name))

unfoldable pub tech_named : Families → Within → Key → List ℕ → Reading TechId
tech_named names within key name = or_unknown within key (option_map tech_at (place_of names.techs name))

-- where a name is given
abbrev pub if_given : {A B : Type 0} → (A → Reading B) → Option A → Reading (Option B)
if_given link None = Ok None
if_given link (Some name) = link name ▸ λ found. Ok (Some found)

-- names that are passed over where they stand for nothing
unfoldable pub known_machine : Families → Option (List ℕ) → Option EntityId
known_machine names name = option_and_then (λ known. option_map machine_at (place_of names.machines known)) name

unfoldable pub known_recipes : Families → List (List ℕ) → List RecipeId
known_recipes names given = filter_map (λ name. option_map recipe_at (place_of names.recipes name)) given

-- ---- goods: the field is the one that named it
abbrev pub good_by : Families → GoodKind → Within → Key → List ℕ → Reading GoodId
good_by names good_kind.Item within key name = item_named names within key name
good_by names good_kind.Fluid within key name = fluid_named names within key name

unfoldable pub linked_good : Families → NamedGood → Reading GoodId
linked_good names good = good_by names good.kind good.within good.key good.name

unfoldable pub linked_part : Families → RawPart → Reading Part
linked_part names part =
    linked_good names part.good ▸ λ good.
    Ok (record { good = good; amount = part.amount; low = part.low; high = part.high })

abbrev pub product_with : RawProduct → GoodId → Product
product_with product good = record { good = good; low = product.low; high = product.high; probability = product.probability; catalyst = product.catalyst; temperature = product.temperature }

unfoldable pub linked_product : Families → RawProduct → Reading Product
linked_product names product =
    linked_good names product.good ▸ λ good.
    Ok (product_with product good)

-- what a launch brings back is an item
unfoldable pub linked_launch : Families → RawProduct → Reading Product
linked_launch names product =
    item_named names product.good.within product.good.key product.good.name ▸ λ good.
    Ok (product_with product good)

unfoldable pub linked_pack : Families → RawPack → Reading (GoodId × Fraction)
linked_pack names pack =
    item_named names within.UnitIngredients Name pack.name ▸ λ good.
    Ok (good, pack.amount)

-- ---- items
unfoldable pub linked_module : Families → RawModule → Module
linked_module names found = record {
  bonus = found.bonus;
  limitation = known_recipes names found.limitation;
  blacklist = known_recipes names found.blacklist;
}

unfoldable pub linked_item : Families → RawItem → Reading Item
linked_item names item =
    if_given (item_named names within.Prototype BurntResult) item.burnt ▸ λ burnt.
    each (linked_launch names) item.launch ▸ λ launch.
    Ok (record { place = known_machine names item.place; fuel = item.fuel; burnt = burnt; «module» = option_map (linked_module names) item.module; launch = launch })

-- ---- recipe
unfoldable pub linked_recipe : Families → RawRecipe → Reading Recipe
linked_recipe names recipe =
    each (linked_part names) recipe.ingredients ▸ λ ingredients.
    each (linked_product names) recipe.products ▸ λ products.
    Ok (record { category = recipe.category; time = recipe.time; enabled = recipe.enabled; emissions = recipe.emissions; ingredients = ingredients; products = products; launch = None })

-- ---- resource, tree, simple-entity, fish
unfoldable pub linked_fluid : Families → List ℕ × Fraction → Reading (GoodId × Fraction)
linked_fluid names taken =
    fluid_named names within.Minable RequiredFluid taken.0 ▸ λ good.
    Ok (good, taken.1)

unfoldable pub linked_source : Families → RawSource → Reading Source
linked_source names source =
    each (linked_product names) source.products ▸ λ products.
    if_given (linked_fluid names) source.fluid ▸ λ fluid.
    Ok (record { drilled = source.drilled; category = source.category; time = source.time; placed = source.placed; products = products; fluid = fluid })

-- ---- machines: what a machine does, and its energy
unfoldable pub linked_energy : Families → RawEnergy → Reading Energy
linked_energy names raw_energy.Electric = Ok energy.Electric
linked_energy names (raw_energy.Burner categories effectivity) = Ok (energy.Burner categories effectivity)
linked_energy names raw_energy.Heat = Ok energy.Heat
linked_energy names (raw_energy.Fluid filter effectivity) =
    if_given (fluid_named names within.EnergySourceFluidBox Filter) filter ▸ λ fluid.
    Ok (energy.Fluid fluid effectivity)
linked_energy names raw_energy.Void = Ok energy.Void

abbrev pub Working : Type 0
Working = MachineKind × Energy

-- of a boiler that heats inside, what comes out is what went in
abbrev pub linked_working : Families → RawKind → RawEnergy → Reading Working
linked_working names (raw_kind.Crafter speed categories fixed) source =
    linked_energy names source ▸ λ power.
    if_given (recipe_named names within.Prototype FixedRecipe) fixed ▸ λ recipe.
    Ok (kind.Crafter speed categories recipe, power)
linked_working names (raw_kind.Drill speed categories fluid_box) source =
    linked_energy names source ▸ λ power.
    Ok (kind.Drill speed categories fluid_box, power)
linked_working names (raw_kind.Pump fluid speed) source =
    fluid_named names within.Prototype FluidKey fluid ▸ λ good.
    linked_energy names source ▸ λ power.
    Ok (kind.Pump good speed, power)
linked_working names (raw_kind.Boiler input output is_one_fluid temperature) source =
    linked_energy names source ▸ λ power.
    if_given (fluid_named names within.FluidBox Filter) input ▸ λ taken.
    if_given (fluid_named names within.OutputFluidBox Filter) output ▸ λ given.
    Ok (kind.Boiler taken (if is_one_fluid then taken else given) temperature, power)
linked_working names (raw_kind.Generator input effectivity per_tick max_temperature burns output) source =
    if_given (fluid_named names within.FluidBox Filter) input ▸ λ taken.
    linked_energy names source ▸ λ power.
    Ok (kind.Generator taken effectivity per_tick max_temperature burns output, power)
linked_working names (raw_kind.BurnerGenerator output) source =
    linked_energy names source ▸ λ power.
    Ok (kind.BurnerGenerator output, power)
linked_working names (raw_kind.Solar production) source =
    linked_energy names source ▸ λ power.
    Ok (kind.Solar production, power)
linked_working names raw_kind.Reactor source =
    linked_energy names source ▸ λ power.
    Ok (kind.Reactor, power)
linked_working names (raw_kind.Lab inputs speed) source =
    each (item_named names within.Prototype Inputs) inputs ▸ λ goods.
    linked_energy names source ▸ λ power.
    Ok (kind.Lab goods speed, power)
linked_working names (raw_kind.Beacon effectivity) source =
    linked_energy names source ▸ λ power.
    Ok (kind.Beacon effectivity, power)

unfoldable pub linked_kind : Families → RawKind → RawEnergy → Reading Working
linked_kind names kind source = linked_working names kind source

unfoldable pub linked_machine : Families → RawMachine → Reading Machine
linked_machine names machine =
    linked_kind names machine.kind machine.energy ▸ λ working.
    Ok (
    record {
      kind = working.0;
      energy = working.1;
      usage = machine.usage;
      drain = machine.drain;
      emissions = machine.emissions;
      slots = machine.slots;
      allowed = machine.allowed;
      base_productivity = machine.base_productivity;
      parts = machine.parts;
    }
    )

-- ---- technology
unfoldable pub linked_tech : Families → RawTech → Reading Tech
linked_tech names tech =
    each (tech_named names within.Prototype Prerequisites) tech.prerequisites ▸ λ prerequisites.
    each (linked_pack names) tech.ingredients ▸ λ ingredients.
    each (recipe_named names within.Effects RecipeKey) tech.unlocks ▸ λ unlocks.
    Ok (record { enabled = tech.enabled; prerequisites = prerequisites; unlocks = unlocks; ingredients = ingredients; count = tech.count; time = tech.time })

-- ---- prototypes beside their names, of which there are as many, one after another: what each becomes, or the first fault
-- with its section and name
abbrev pub each_linked : {A B : Type 0} → (A → Section) → (A → Reading B) → List A → List (List ℕ) → Result (List B) DumpFault
each_linked section_of link (raw ∷ raws) (name ∷ names) =
    in_prototype (section_text (section_of raw)) name (link raw) ▷ λ first.
    each_linked section_of link raws names ▷ λ rest.
    Ok (first ∷ rest)
each_linked section_of link raws names = Ok []

-- ---- the game
abbrev pub families_of : RawGame → Families
families_of g = record {
  items = g.item_names;
  fluids = g.fluid_names;
  recipes = g.recipe_names;
  sources = g.source_names;
  machines = g.machine_names;
  techs = g.tech_names;
}

-- the typed game, or the first name that stands for nothing
unfoldable pub linked : RawGame → Result Game DumpFault
linked g =
    each_linked (λ item. item.section) (linked_item (families_of g)) g.items g.item_names ▷ λ items.
    each_linked (λ _. section.Recipe) (linked_recipe (families_of g)) g.recipes g.recipe_names ▷ λ recipes.
    each_linked (λ source. source.section) (linked_source (families_of g)) g.sources g.source_names ▷ λ sources.
    each_linked (λ machine. machine.section) (linked_machine (families_of g)) g.machines g.machine_names ▷ λ machines.
    each_linked (λ _. section.Technology) (linked_tech (families_of g)) g.techs g.tech_names ▷ λ techs.
    Ok (
    record {
      items = items;
      fluids = g.fluids;
      recipes = recipes;
      sources = sources;
      machines = machines;
      techs = techs;
      character = record { crafting = g.crafting; mining = g.mining };
      item_names = g.item_names;
      fluid_names = g.fluid_names;
      recipe_names = g.recipe_names;
      source_names = g.source_names;
      machine_names = g.machine_names;
      tech_names = g.tech_names;
      categories = g.categories;
    }
    )
