-- The nodes of things by their kinds and numbers.
use Rattle.std.specs.Prelude.{ℕ, ◌-◌, nat_lt, length, if◌then◌else◌}
use Rattle.plan_base.specs.Shape.{count_of, node_count}
use Rattle.plan_base.specs.declared.ids.GoodId.{GoodId}
use Rattle.plan_base.specs.declared.ids.NodeId.{NodeId}
use Rattle.plan_base.specs.declared.shape.Kind.{Kind}
use Rattle.plan_base.specs.declared.shape.Kind.TheVariants.{Item, Fluid}
use Rattle.game_types.specs.Nodes.{node_at, shape_of}
use Rattle.game_types.specs.declared.games.Game.{Game}

-- the thing of a kind with a number; past the last, the node behind all
abbrev pub thing_node : Game → Kind → ℕ → NodeId
thing_node g kind number = if nat_lt number (count_of (shape_of g) kind) then node_at g kind number else record { 0 = node_count (shape_of g) }

-- items come before fluids
abbrev pub good_node : Game → GoodId → NodeId
good_node g good = if nat_lt good.0 (length g.items) then thing_node g Item good.0 else thing_node g Fluid (good.0 - length g.items)
