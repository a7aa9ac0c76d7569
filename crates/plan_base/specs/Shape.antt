-- How the nodes of a game are numbered: the three special nodes, then items, fluids, recipes, sources, machines and
-- technologies, each kind in the order of its list. The numbering is this project's own.
use Rattle.std.specs.Prelude.{◌+◌, ℕ}
use Rattle.plan_base.specs.declared.ids.NodeId.{NodeId}
use Rattle.plan_base.specs.declared.shape.Shape.{Shape}
use Rattle.plan_base.specs.declared.shape.Kind.{Kind}
use Rattle.plan_base.specs.declared.shape.Kind.TheVariants.{Special, Item, Fluid, Recipe, Source, Machine, Tech}

-- how many nodes of a kind there are
abbrev pub count_of : Shape → Kind → ℕ
count_of s Special = 3
count_of s Item = s.items
count_of s Fluid = s.fluids
count_of s Recipe = s.recipes
count_of s Source = s.sources
count_of s Machine = s.machines
count_of s Tech = s.techs

-- the number of the first node of a kind
abbrev pub first_of : Shape → Kind → ℕ
first_of s Special = 0
first_of s Item = 3
first_of s Fluid = 3 + s.items
first_of s Recipe = 3 + s.items + s.fluids
first_of s Source = 3 + s.items + s.fluids + s.recipes
first_of s Machine = 3 + s.items + s.fluids + s.recipes + s.sources
first_of s Tech = 3 + s.items + s.fluids + s.recipes + s.sources + s.machines

-- the three special nodes
abbrev pub character_node : NodeId
character_node = record { 0 = 0 }

abbrev pub electricity_node : NodeId
electricity_node = record { 0 = 1 }

abbrev pub heat_node : NodeId
heat_node = record { 0 = 2 }

-- how many nodes there are
abbrev pub node_count : Shape → ℕ
node_count s = 3 + s.items + s.fluids + s.recipes + s.sources + s.machines + s.techs
