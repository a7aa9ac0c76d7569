-- Lists of what is placed as machines, and of the fluids that burn; which goods are named.
use Rattle.std.specs.Prelude.{ℕ, ◌+◌, ◌==◌, ◌&&◌, Bool, false, is_none, List, Option, Some, None, length}
use Rattle.std.specs.List.{list_any}
use Rattle.plan_base.specs.declared.ids.NodeId.{NodeId}
use Rattle.plan_base.specs.declared.ids.EntityId.{EntityId}
use Rattle.plan_base.specs.declared.ids.GoodId.{GoodId}
use Rattle.fractions.specs.Signs.{is_positive}
use Rattle.game_types.specs.declared.games.Game.{Game}
use Rattle.graph_store.specs.Members.{those}

abbrev pub is_machine : Option EntityId → ℕ → Bool
is_machine None number = false
is_machine (Some m) number = m.0 == number

-- the items that are placed as a machine
unfoldable pub placers : Game → ℕ → List NodeId
placers g number = those (λ item. is_machine item.place number) 3 g.items

-- the fluids that burn, without the variants
unfoldable pub burning_fluids : Game → List NodeId
burning_fluids g = those (λ fluid. is_none fluid.of && is_positive fluid.fuel_value) (3 + length g.items) g.fluids

abbrev pub names_good : List GoodId → ℕ → Bool
names_good goods good = list_any (λ g. g.0 == good) goods
