-- Machines, as members of objects of JSON.
use Rattle.std.specs.Prelude.{ℕ, Bool, true, false, List, [], ◌∷◌, ◌++◌, Option, None, Some, codes, map, option_map}
use Rattle.fractions.specs.Fraction.{Fraction}
use Rattle.plan_base.specs.declared.ids.EntityId.{EntityId}
use Rattle.plan_base.specs.declared.ids.GoodId.{GoodId}
use Rattle.plan_base.specs.declared.ids.NodeId.{NodeId}
use Rattle.plan_base.specs.declared.ids.RecipeId.{RecipeId}
use Rattle.plan_base.specs.declared.shape.Kind.TheVariants.{Recipe as RecipeNode}
use Rattle.game_types.specs.declared.effects.Allowed.{Allowed}
use Rattle.game_types.specs.declared.games.Game.{Game}
use Rattle.game_types.specs.declared.machinery.Energy.{Energy}
use Rattle.game_types.specs.declared.machinery.Energy.TheVariants.{Electric, Burner, Heat, Fluid as OfFluid, Void}
use Rattle.game_types.specs.declared.machinery.Machine.{Machine}
use Rattle.game_types.specs.declared.machinery.MachineKind.{MachineKind}
use Rattle.game_types.specs.declared.machinery.MachineKind.TheVariants.{Crafter, Drill, Pump, Boiler, Generator, BurnerGenerator, Solar, Reactor, Lab, Beacon}
use Rattle.game_types.specs.Lookups.{machine_at}
use Rattle.depend_index.specs.Machines.{placers}
use Rattle.serde_json.specs.Data.{Members}
use Rattle.catalog_members.specs.Members.{with_amount, with_amount_where, with_count, with_id_where, with_ids, with_text, with_words}
use Rattle.catalog_things.specs.Choices.{fuels_of, modules_of}
use Rattle.catalog_things.specs.Goods.{good_node_where}
use Rattle.catalog_things.specs.Nodes.{good_node, thing_node}
use Rattle.catalog_things.specs.Parts.{with_unless_zero}

-- ---- what it does
unfoldable pub kind_name : MachineKind → List ℕ
kind_name (Crafter speed categories fixed) = codes "crafter"
kind_name (Drill speed categories fluid_box) = codes "drill"
kind_name (Pump fluid speed) = codes "pump"
kind_name (Boiler input output temperature) = codes "boiler"
kind_name (Generator input effectivity per_tick max_temperature burns output) = codes "generator"
kind_name (BurnerGenerator output) = codes "burner"
kind_name (Solar production) = codes "solar"
kind_name Reactor = codes "reactor"
kind_name (Lab inputs speed) = codes "lab"
kind_name (Beacon effectivity) = codes "beacon"

-- the speed of a machine that has one
unfoldable pub speed_of : MachineKind → Option Fraction
speed_of (Crafter speed categories fixed) = Some speed
speed_of (Drill speed categories fluid_box) = Some speed
speed_of (Pump fluid speed) = Some speed
speed_of (Lab inputs speed) = Some speed
speed_of kind = None

-- the temperature to which a boiler heats
unfoldable pub temperature_of : MachineKind → Option Fraction
temperature_of (Boiler input output temperature) = Some temperature
temperature_of kind = None

-- the most electric power that a machine gives
unfoldable pub power_of : MachineKind → Option Fraction
power_of (Generator input effectivity per_tick max_temperature burns output) = output
power_of (BurnerGenerator output) = Some output
power_of (Solar production) = Some production
power_of kind = None

-- what a beacon passes on
unfoldable pub distribution_of : MachineKind → Option Fraction
distribution_of (Beacon effectivity) = Some effectivity
distribution_of kind = None

-- what a machine is called by what it does, and how fast it does that
unfoldable pub with_work : MachineKind → Members → Members
with_work kind ms = with_amount_where (codes "speed") (speed_of kind) (with_text (codes "kind") (kind_name kind) ms)

-- the most that it gives, how hot, and what it passes on
unfoldable pub with_output : MachineKind → Members → Members
with_output kind ms =
    with_amount_where (codes "distribution") (distribution_of kind)
    (with_amount_where (codes "power") (power_of kind)
    (with_amount_where (codes "temperature") (temperature_of kind) ms))

unfoldable pub with_machine_kind : MachineKind → Members → Members
with_machine_kind kind ms = with_output kind (with_work kind ms)

-- ---- what it takes and gives
-- the recipe that a crafter is fixed to
abbrev pub fixed_of : MachineKind → Option RecipeId
fixed_of (Crafter speed categories fixed) = fixed
fixed_of kind = None

-- the fluid that a boiler or a generator takes in
abbrev pub input_of : MachineKind → Option GoodId
input_of (Boiler input output temperature) = input
input_of (Generator input effectivity per_tick max_temperature burns output) = input
input_of kind = None

-- the fluid that a boiler or a pump gives
abbrev pub output_of : MachineKind → Option GoodId
output_of (Boiler input output temperature) = output
output_of (Pump fluid speed) = Some fluid
output_of kind = None

-- the packs that a lab takes
abbrev pub inputs_of : MachineKind → List GoodId
inputs_of (Lab inputs speed) = inputs
inputs_of kind = []

abbrev pub recipe_node_where : Game → Option RecipeId → Option NodeId
recipe_node_where g recipe = option_map (λ r. thing_node g RecipeNode r.0) recipe

unfoldable pub good_nodes : Game → List GoodId → List NodeId
good_nodes g goods = map (good_node g) goods

unfoldable pub with_flows : Game → MachineKind → Members → Members
with_flows g kind ms =
    with_ids (codes "inputs") g (good_nodes g (inputs_of kind))
    (with_id_where (codes "gives") g (good_node_where g (output_of kind))
    (with_id_where (codes "takes") g (good_node_where g (input_of kind))
    (with_id_where (codes "fixed") g (recipe_node_where g (fixed_of kind)) ms)))

-- ---- its energy
abbrev pub energy_name : Energy → List ℕ
energy_name Electric = codes "electric"
energy_name (Burner categories effectivity) = codes "burner"
energy_name Heat = codes "heat"
energy_name (OfFluid filter effectivity) = codes "fluid"
energy_name Void = codes "void"

-- what of the energy that it burns a machine uses
abbrev pub efficiency_of : Energy → Option Fraction
efficiency_of (Burner categories effectivity) = Some effectivity
efficiency_of (OfFluid filter effectivity) = Some effectivity
efficiency_of energy = None

-- its fuels are just those for which no row of it is refused as L2
unfoldable pub with_energy : Game → Energy → Members → Members
with_energy g energy ms =
    with_ids (codes "fuels") g (fuels_of g energy)
    (with_amount_where (codes "efficiency") (efficiency_of energy)
    (with_text (codes "energy") (energy_name energy) ms))

unfoldable pub with_use : Machine → Members → Members
with_use machine ms =
    with_amount (codes "emissions") machine.emissions
    (with_amount (codes "drain") machine.drain
    (with_amount (codes "usage") machine.usage ms))

-- ---- its modules
abbrev pub word_where : Bool → List ℕ → List (List ℕ)
word_where true word = word ∷ []
word_where false word = []

unfoldable pub effect_words : Allowed → List (List ℕ)
effect_words allowed =
    ((word_where allowed.speed (codes "speed") ++ word_where allowed.productivity (codes "productivity"))
    ++ word_where allowed.consumption (codes "consumption")) ++ word_where allowed.pollution (codes "pollution")

-- its modules are just those for which no row of it is refused as U2
unfoldable pub with_effects : Game → Machine → Members → Members
with_effects g machine ms =
    with_unless_zero (codes "productivity") machine.base_productivity
    (with_ids (codes "modules") g (modules_of g machine.allowed)
    (with_words (codes "effects") (effect_words machine.allowed)
    (with_count (codes "slots") machine.slots ms)))

-- ---- all of it
unfoldable pub with_machine_members : Game → Machine → Members → Members
with_machine_members g machine ms =
    with_effects g machine
    (with_use machine
    (with_energy g machine.energy
    (with_flows g machine.kind
    (with_machine_kind machine.kind ms))))

-- a machine, with the items that are placed as it
unfoldable pub with_machine : Game → EntityId → Members → Members
with_machine g number ms = with_ids (codes "items") g (placers g number.0) (with_machine_members g (machine_at g number) ms)
