-- The nodes of a game and their names. Special nodes have the names `character`, `electricity` and `heat`.
use Rattle.std.specs.Prelude.{ℕ, ◌+◌, List, [], ◌∷◌, ◌++◌, Option, codes, length, option_map}
use Rattle.plan_base.specs.Shape.{first_of}
use Rattle.plan_base.specs.declared.NodeId.{NodeId}
use Rattle.plan_base.specs.declared.shape.Shape.{Shape}
use Rattle.plan_base.specs.declared.shape.Kind.{Kind}
use Rattle.plan_base.specs.declared.shape.Kind.TheVariants.{Special, Item, Fluid, Recipe, Source, Machine, Tech}
use Rattle.name_table.specs.Names.{place_of}
use Rattle.game_types.specs.declared.games.Game.{Game}

-- how many things of each kind a game has
abbrev pub shape_of : Game → Shape
shape_of g = record {
  items = length g.items;
  fluids = length g.fluids;
  recipes = length g.recipes;
  sources = length g.sources;
  machines = length g.machines;
  techs = length g.techs;
}

-- the most nodes that a game has
abbrev pub node_limit : ℕ
node_limit = 131_072

abbrev pub special_names : List (List ℕ)
special_names = codes "character" ∷ codes "electricity" ∷ codes "heat" ∷ []

-- the names of the things of a kind, in order
abbrev pub names_of : Game → Kind → List (List ℕ)
names_of g Special = special_names
names_of g Item = g.item_names
names_of g Fluid = g.fluid_names
names_of g Recipe = g.recipe_names
names_of g Source = g.source_names
names_of g Machine = g.machine_names
names_of g Tech = g.tech_names

-- the names of all nodes, in order
abbrev pub node_names : Game → List (List ℕ)
node_names g = special_names ++ (g.item_names ++ (g.fluid_names ++ (g.recipe_names ++ (g.source_names ++ (g.machine_names ++ g.tech_names)))))

-- the node of a kind with an index
abbrev pub node_at : Game → Kind → ℕ → NodeId
node_at g kind index = record { 0 = first_of (shape_of g) kind + index }

-- the node of a kind with a name, where there is one
abbrev pub find_node : Game → Kind → List ℕ → Option NodeId
find_node g kind name = option_map (node_at g kind) (place_of (names_of g kind) name)
