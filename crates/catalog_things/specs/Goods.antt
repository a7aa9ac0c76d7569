-- Items, fluids, electricity and heat, as members of objects of JSON.
use Rattle.std.specs.Prelude.{ℕ, ◌+◌, ◌==◌, ℤ, Bool, true, false, List, [], Option, None, Some, codes, length, map, option_map, if◌then◌else◌}
use Rattle.fractions.specs.Fraction.{Fraction, frac}
use Rattle.fractions.specs.Signs.{is_zero}
use Rattle.plan_base.specs.declared.ids.EntityId.{EntityId}
use Rattle.plan_base.specs.declared.ids.GoodId.{GoodId}
use Rattle.plan_base.specs.declared.ids.NodeId.{NodeId}
use Rattle.plan_base.specs.declared.ids.RecipeId.{RecipeId}
use Rattle.plan_base.specs.declared.shape.Kind.TheVariants.{Machine as MachineNode, Recipe as RecipeNode}
use Rattle.game_types.specs.declared.effects.Bonus.{Bonus}
use Rattle.game_types.specs.declared.games.Game.{Game}
use Rattle.game_types.specs.declared.goods.Fluid.{Fluid}
use Rattle.game_types.specs.declared.goods.Fuel.{Fuel}
use Rattle.game_types.specs.declared.goods.Item.{Item}
use Rattle.game_types.specs.declared.goods.Module.{Module}
use Rattle.game_types.specs.declared.machinery.MachineKind.{MachineKind}
use Rattle.game_types.specs.declared.machinery.MachineKind.TheVariants.{Reactor}
use Rattle.game_types.specs.declared.setups.Activity.TheVariants.{Generate}
use Rattle.graph_store.specs.Members.{those}
use Rattle.depend_index.specs.Goods.{first_machine, putters, variants}
use Rattle.serde_json.specs.Data.{Members, no_members}
use Rattle.catalog_members.specs.Members.{with_amount, with_id_where, with_ids, with_object}
use Rattle.catalog_things.specs.Choices.{machines_for}
use Rattle.catalog_things.specs.Nodes.{good_node, thing_node}
use Rattle.catalog_things.specs.Parts.{with_products, with_unless_zero}

-- ---- modules
-- hundredths as a fraction, unless they are none
unfoldable pub with_hundredths : List ℕ → ℤ → Members → Members
with_hundredths key hundredths ms = with_unless_zero key (frac hundredths 100) ms

unfoldable pub with_bonus : Bonus → Members → Members
with_bonus bonus ms =
    with_hundredths (codes "pollution") bonus.pollution
    (with_hundredths (codes "consumption") bonus.consumption
    (with_hundredths (codes "productivity") bonus.productivity
    (with_hundredths (codes "speed") bonus.speed ms)))

unfoldable pub recipe_nodes : Game → List RecipeId → List NodeId
recipe_nodes g recipes = map (λ r. thing_node g RecipeNode r.0) recipes

unfoldable pub with_module_members : Game → Module → Members → Members
with_module_members g installed ms =
    with_ids (codes "not") g (recipe_nodes g installed.blacklist)
    (with_ids (codes "only") g (recipe_nodes g installed.limitation)
    (with_bonus installed.bonus ms))

-- what an item is as a module
unfoldable pub with_module : Game → Option Module → Members → Members
with_module g None ms = ms
with_module g (Some installed) ms = with_object (codes "module") (with_module_members g installed no_members) ms

-- ---- fuels
unfoldable pub with_fuel_members : Fuel → Members → Members
with_fuel_members fuel ms = with_amount (codes "value") fuel.value (with_amount (codes "emissions") fuel.emissions ms)

-- what an item is as a fuel
unfoldable pub with_fuel : Option Fuel → Members → Members
with_fuel None ms = ms
with_fuel (Some fuel) ms = with_object (codes "fuel") (with_fuel_members fuel no_members) ms

-- ---- items and fluids
abbrev pub machine_node_where : Game → Option EntityId → Option NodeId
machine_node_where g machine = option_map (λ m. thing_node g MachineNode m.0) machine

abbrev pub good_node_where : Game → Option GoodId → Option NodeId
good_node_where g good = option_map (good_node g) good

unfoldable pub with_item : Game → Item → Members → Members
with_item g item ms =
    with_products (codes "launch") g item.launch
    (with_module g item.module
    (with_fuel item.fuel
    (with_id_where (codes "burnt") g (good_node_where g item.burnt)
    (with_id_where (codes "places") g (machine_node_where g item.place) ms))))

-- the energy of a fluid that burns
unfoldable pub with_fluid_fuel : Fraction → Members → Members
with_fluid_fuel value ms = if is_zero value then ms else with_object (codes "fuel") (with_amount (codes "value") value no_members) ms

unfoldable pub with_heat : Fluid → Members → Members
with_heat fluid ms =
    with_fluid_fuel fluid.fuel_value
    (with_amount (codes "heat") fluid.heat_capacity
    (with_amount (codes "temperature") fluid.at ms))

-- the fluid that a good is, with its variants and the machines that put it out
unfoldable pub with_fluid : Game → GoodId → Fluid → Members → Members
with_fluid g good fluid ms =
    with_ids (codes "by") g (putters g good.0)
    (with_ids (codes "variants") g (variants g good.0)
    (with_heat fluid
    (with_id_where (codes "base") g (good_node_where g fluid.of) ms)))

-- ---- special nodes
abbrev pub makes_heat : MachineKind → Bool
makes_heat Reactor = true
makes_heat kind = false

unfoldable pub reactors : Game → List NodeId
reactors g = those (λ machine. makes_heat machine.kind) (first_machine g) g.machines

-- electricity is made by the machines of which no row that generates is refused as K1, heat by reactors
abbrev pub special_makers : Game → ℕ → List NodeId
special_makers g number = if number == 1 then machines_for g Generate else if number == 2 then reactors g else []

unfoldable pub with_special : Game → ℕ → Members → Members
with_special g number ms = with_ids (codes "by") g (special_makers g number) ms
