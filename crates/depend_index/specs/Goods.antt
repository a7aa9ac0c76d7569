-- Where the nodes of each kind begin, and lists of what gives goods and unlocks recipes.
use Rattle.std.specs.Prelude.{ℕ, ◌+◌, ◌==◌, Bool, false, List, length}
use Rattle.std.specs.List.{list_any}
use Rattle.plan_base.specs.Shape.{first_of}
use Rattle.plan_base.specs.declared.ids.NodeId.{NodeId}
use Rattle.plan_base.specs.declared.shape.Kind.TheVariants.{Recipe as RecipeKind, Source as SourceKind, Machine as MachineKind_, Tech as TechKind}
use Rattle.game_types.specs.Temperatures.{is_good}
use Rattle.game_types.specs.Nodes.{shape_of}
use Rattle.game_types.specs.declared.games.Game.{Game}
use Rattle.game_types.specs.declared.machinery.MachineKind.{MachineKind}
use Rattle.game_types.specs.declared.machinery.MachineKind.TheVariants.{Pump, Boiler}
use Rattle.graph_store.specs.Members.{those}

-- the number of the first node of each kind
abbrev pub first_recipe : Game → ℕ
first_recipe g = first_of (shape_of g) RecipeKind

abbrev pub first_source : Game → ℕ
first_source g = first_of (shape_of g) SourceKind

abbrev pub first_machine : Game → ℕ
first_machine g = first_of (shape_of g) MachineKind_

abbrev pub first_tech : Game → ℕ
first_tech g = first_of (shape_of g) TechKind

-- how many goods there are
abbrev pub good_count : Game → ℕ
good_count g = length g.items + length g.fluids

-- ---- lists
-- a pump gives its fluid, and a boiler its output
abbrev pub puts_out : MachineKind → ℕ → Bool
puts_out (Pump fluid speed) good = fluid.0 == good
puts_out (Boiler input output temperature) good = is_good output good
puts_out kind good = false

-- the items that leave a good when they are burnt
unfoldable pub leavers : Game → ℕ → List NodeId
leavers g good = those (λ item. is_good item.burnt good) 3 g.items

-- the variants of a base
unfoldable pub variants : Game → ℕ → List NodeId
variants g good = those (λ fluid. is_good fluid.of good) (3 + length g.items) g.fluids

-- the machines that put a good out
unfoldable pub putters : Game → ℕ → List NodeId
putters g good = those (λ machine. puts_out machine.kind good) (first_machine g) g.machines

-- the technologies that unlock a recipe
unfoldable pub unlockers : Game → ℕ → List NodeId
unlockers g number = those (λ tech. list_any (λ r. r.0 == number) tech.unlocks) (first_tech g) g.techs
