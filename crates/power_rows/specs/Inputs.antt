-- What a boiler or a generator takes in. After the prototype documentation of Factorio 1.1 (`BoilerPrototype`,
-- `GeneratorPrototype`, `FluidBox` and its filter).
use Rattle.std.specs.Prelude.{List, [], ◌∷◌, Option, Some, None}
use Rattle.fractions.specs.Fraction.{zero_fraction}
use Rattle.plan_base.specs.declared.ids.GoodId.{GoodId}
use Rattle.game_types.specs.declared.goods.Fluid.{Fluid}
use Rattle.game_types.specs.declared.machinery.MachineKind.{MachineKind}
use Rattle.game_types.specs.declared.machinery.MachineKind.TheVariants.{Boiler, Generator}
use Rattle.game_types.specs.declared.setups.Setup.{Setup}
use Rattle.game_types.specs.declared.games.Game.{Game}
use Rattle.game_types.specs.Lookups.{machine_at}
use Rattle.game_types.specs.Temperatures.{choice_of, fluid_at}
use Rattle.power_rows.specs.declared.inputs.Input.{Input}
use Rattle.power_rows.specs.declared.inputs.Input.TheVariants.{None as Nothing, Fluid as OfFluid, Missing}

-- the choice of a good; the good itself where nothing fits, which comes on no sound game
abbrev pub or_good : GoodId → Option GoodId → GoodId
or_good good (Some choice) = choice
or_good good None = good

-- without a filter it is the first fluid of the row's own
abbrev pub first_own : List GoodId → Input
first_own [] = Missing
first_own (good ∷ goods) = OfFluid good

-- through a filter comes the choice of its fluid, at any temperature
abbrev pub filtered : Game → List GoodId → Option GoodId → Input
filtered g at (Some filter) = OfFluid (or_good filter (choice_of g at filter.0 None None))
filtered g at None = first_own at

abbrev pub taken_in : Game → List GoodId → MachineKind → Input
taken_in g at (Boiler input output temperature) = filtered g at input
taken_in g at (Generator input effectivity per_tick max_temperature burns output) = filtered g at input
taken_in g at kind = Nothing

unfoldable pub input_of : Game → Setup → Input
input_of g setup = taken_in g setup.at (machine_at g setup.machine).kind

-- ---- the fluid that comes in; where none does, one that gives nothing
abbrev pub no_fluid : Fluid
no_fluid = record { fuel_value = zero_fraction; heat_capacity = zero_fraction; default_temperature = zero_fraction; of = None; at = zero_fraction }

abbrev pub or_no_fluid : Option Fluid → Fluid
or_no_fluid (Some fluid) = fluid
or_no_fluid None = no_fluid

abbrev pub fluid_of_input : Game → Input → Fluid
fluid_of_input g (OfFluid good) = or_no_fluid (fluid_at g good.0)
fluid_of_input g input = no_fluid

unfoldable pub fluid_in : Game → Setup → Fluid
fluid_in g setup = fluid_of_input g (input_of g setup)
