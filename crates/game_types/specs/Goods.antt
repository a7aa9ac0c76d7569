-- The goods of tables: items and fluids as in the records of a game, behind them electric power in watts, and behind that one
-- unit of each technology. That they stand in this order is this project's own.
use Rattle.std.specs.Prelude.{ℕ, ◌+◌, ◌-◌, ◌==◌, nat_lt, length, if◌then◌else◌}
use Rattle.plan_base.specs.Shape.{electricity_node, first_of}
use Rattle.plan_base.specs.declared.GoodId.{GoodId}
use Rattle.plan_base.specs.declared.NodeId.{NodeId}
use Rattle.plan_base.specs.declared.TechId.{TechId}
use Rattle.plan_base.specs.declared.shape.Kind.TheVariants.{Tech}
use Rattle.game_types.specs.declared.games.Game.{Game}
use Rattle.game_types.specs.Nodes.{shape_of}

-- how many items and fluids there are
abbrev pub solid_and_fluid : Game → ℕ
solid_and_fluid g = length g.items + length g.fluids

unfoldable pub electricity : Game → GoodId
electricity g = record { 0 = solid_and_fluid g }

unfoldable pub units_good : Game → TechId → GoodId
units_good g tech = record { 0 = solid_and_fluid g + 1 + tech.0 }

abbrev pub good_count : Game → ℕ
good_count g = solid_and_fluid g + 1 + length g.techs

-- the node by which a good is named
unfoldable pub node_of_good : Game → GoodId → NodeId
node_of_good g good =
    if nat_lt good.0 (solid_and_fluid g) then record { 0 = 3 + good.0 }
    else if good.0 == solid_and_fluid g then electricity_node
    else record { 0 = first_of (shape_of g) Tech + (good.0 - (solid_and_fluid g + 1)) }
