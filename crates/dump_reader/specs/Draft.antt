-- What is known of a dump while it is read: its prototypes with names in place of ids, and the names that were taken. A
-- name is taken once in its family; there are at most 131,072 nodes, the three special ones among them.
use Rattle.std.specs.Prelude.{ℕ, ◌+◌, ◌||◌, List, [], ◌∷◌, ◌++◌, Option, Some, None, Ok, is_some, length, nat_le, if◌then◌else◌}
use Rattle.name_table.specs.Names.{place_of, with_name}
use Rattle.prototype_fields.specs.declared.fault.FieldCode.TheVariants.{Twice, Limit}
use Rattle.prototype_fields.specs.declared.names.Key.{Key}
use Rattle.prototype_fields.specs.declared.names.Key.TheVariants.{Minable, CraftingCategories, MiningCategories}
use Rattle.prototype_fields.specs.declared.names.Within.TheVariants as within
use Rattle.prototype_fields.specs.Objects.{Object, field}
use Rattle.prototype_fields.specs.Values.{Reading, ◌▸◌, Names, with_names, wrong_element, list_or_empty, categories}
use Rattle.craft_reader.specs.Recipes.{raw_recipe}
use Rattle.craft_reader.specs.Technologies.{raw_tech}
use Rattle.craft_reader.specs.declared.recipes.RawRecipe.{RawRecipe}
use Rattle.craft_reader.specs.declared.technologies.RawTech.{RawTech}
use Rattle.game_types.specs.declared.goods.Fluid.{Fluid}
use Rattle.game_types.specs.Nodes.{node_limit}
use Rattle.machine_reader.specs.declared.raw.RawMachine.{RawMachine}
use Rattle.machine_reader.specs.declared.sections.Class.{Class}
use Rattle.machine_reader.specs.declared.sections.Class.TheVariants as class
use Rattle.machine_reader.specs.declared.sections.Section.{Section}
use Rattle.machine_reader.specs.declared.sections.Section.TheVariants as section
use Rattle.machine_reader.specs.Machines.{machine_of}
use Rattle.machine_reader.specs.Sections.{class_of}
use Rattle.dump_reader.specs.declared.draft.Draft.{Draft}
use Rattle.dump_reader.specs.declared.raw.RawItem.{RawItem}
use Rattle.dump_reader.specs.declared.raw.RawSource.{RawSource}
use Rattle.dump_reader.specs.Goods.{item_of, fluid_of}
use Rattle.dump_reader.specs.Sources.{resource_of, plant_of}

pub record RawGame : Type 0 where
  pub items : List RawItem
  pub fluids : List Fluid
  pub recipes : List RawRecipe
  pub sources : List RawSource
  pub machines : List RawMachine
  pub techs : List RawTech
  pub crafting : List ℕ
  pub mining : List ℕ
  pub item_names : Names
  pub fluid_names : Names
  pub recipe_names : Names
  pub source_names : Names
  pub machine_names : Names
  pub tech_names : Names
  pub categories : Names
  pub nodes : ℕ

abbrev pub draft_seen : Draft → RawGame
draft_seen d = record {
  items = d.items.items;
  fluids = d.fluids.items;
  recipes = d.recipes.items;
  sources = d.sources.items;
  machines = d.machines.items;
  techs = d.techs.items;
  crafting = d.crafting.items;
  mining = d.mining.items;
  item_names = d.item_names;
  fluid_names = d.fluid_names;
  recipe_names = d.recipe_names;
  source_names = d.source_names;
  machine_names = d.machine_names;
  tech_names = d.tech_names;
  categories = d.categories;
  nodes = d.nodes;
}

-- the three special nodes alone
abbrev pub empty_game : RawGame
empty_game = record {
  items = [];
  fluids = [];
  recipes = [];
  sources = [];
  machines = [];
  techs = [];
  crafting = [];
  mining = [];
  item_names = [];
  fluid_names = [];
  recipe_names = [];
  source_names = [];
  machine_names = [];
  tech_names = [];
  categories = [];
  nodes = 3;
}

-- ---- a new name of a family, and one node more: there may be 131,072 nodes, and as many names in a family
abbrev pub Taken : Type 0
Taken = Names × ℕ

unfoldable pub taken : Names → ℕ → List ℕ → Reading Taken
taken names nodes name =
    if is_some (place_of names name) then wrong_element Twice within.Prototype
    else if nat_le node_limit nodes || nat_le 131072 (length names) then wrong_element Limit within.Prototype
    else Ok (with_name names name, nodes + 1)

-- the same where two lists are of one family
unfoldable pub taken_beside : Names → Names → ℕ → List ℕ → Reading Taken
taken_beside names others nodes name =
    if is_some (place_of others name) then wrong_element Twice within.Prototype else taken names nodes name

-- ---- one prototype more, by the class of its section
unfoldable pub with_item : Section → List ℕ → Object → RawGame → Reading RawGame
with_item section name object g =
    taken g.item_names g.nodes name ▸ λ t.
    item_of section object g.categories ▸ λ found.
    Ok (record g { items = g.items ++ found.0 ∷ []; item_names = t.0; categories = found.1; nodes = t.1 })

unfoldable pub with_fluid : List ℕ → Object → RawGame → Reading RawGame
with_fluid name object g =
    taken g.fluid_names g.nodes name ▸ λ t.
    fluid_of object ▸ λ fluid.
    Ok (record g { fluids = g.fluids ++ fluid ∷ []; fluid_names = t.0; nodes = t.1 })

unfoldable pub with_recipe : List ℕ → Object → RawGame → Reading RawGame
with_recipe name object g =
    taken g.recipe_names g.nodes name ▸ λ t.
    raw_recipe object g.categories ▸ λ found.
    Ok (record g { recipes = g.recipes ++ found.0 ∷ []; recipe_names = t.0; categories = found.1; nodes = t.1 })

unfoldable pub with_tech : List ℕ → Object → RawGame → Reading RawGame
with_tech name object g =
    taken g.tech_names g.nodes name ▸ λ t.
    raw_tech object ▸ λ tech.
    Ok (record g { techs = g.techs ++ tech ∷ []; tech_names = t.0; nodes = t.1 })

-- what can't be mined takes no name
unfoldable pub source_taken : Object → List ℕ → RawGame → Reading Taken
source_taken object name g = if is_some (field object Minable) then taken_beside g.source_names g.machine_names g.nodes name else Ok (g.source_names, g.nodes)

abbrev pub source_by : Section → Object → Names → Reading (Option RawSource × Names)
source_by section.Resource object names = resource_of section.Resource object names
source_by section object names = with_names names (plant_of section object)

abbrev pub one_more : List RawSource → Option RawSource → List RawSource
one_more sources None = sources
one_more sources (Some source) = sources ++ source ∷ []

unfoldable pub source_of : Section → Object → Names → Reading (Option RawSource × Names)
source_of section object names = source_by section object names

unfoldable pub with_source : Section → List ℕ → Object → RawGame → Reading RawGame
with_source section name object g =
    source_taken object name g ▸ λ t.
    source_of section object g.categories ▸ λ found.
    Ok (record g { sources = one_more g.sources found.0; source_names = t.0; categories = found.1; nodes = t.1 })

unfoldable pub with_machine : Section → List ℕ → Object → RawGame → Reading RawGame
with_machine section name object g =
    taken_beside g.machine_names g.source_names g.nodes name ▸ λ t.
    machine_of section object g.categories ▸ λ found.
    Ok (record g { machines = g.machines ++ found.0 ∷ []; machine_names = t.0; categories = found.1; nodes = t.1 })

-- the categories of a list, of which there may be none
unfoldable pub categories_at : Object → Key → Names → Reading (List ℕ × Names)
categories_at object key names =
    list_or_empty object key ▸ λ elements.
    categories object key elements names

-- all characters together craft and mine what one of them does
unfoldable pub with_character : Object → RawGame → Reading RawGame
with_character object g =
    categories_at object CraftingCategories g.categories ▸ λ crafting.
    categories_at object MiningCategories crafting.1 ▸ λ mining.
    Ok (record g { crafting = g.crafting ++ crafting.0; mining = g.mining ++ mining.0; categories = mining.1 })

abbrev pub with_entry : Class → Section → List ℕ → Object → RawGame → Reading RawGame
with_entry class.Items section name object g = with_item section name object g
with_entry class.Fluids section name object g = with_fluid name object g
with_entry class.Recipes section name object g = with_recipe name object g
with_entry class.Sources section name object g = with_source section name object g
with_entry class.Machines section name object g = with_machine section name object g
with_entry class.Characters section name object g = with_character object g
with_entry class.Technologies section name object g = with_tech name object g

unfoldable pub with_prototype : Section → List ℕ → Object → RawGame → Reading RawGame
with_prototype section name object g = with_entry (class_of section) section name object g
