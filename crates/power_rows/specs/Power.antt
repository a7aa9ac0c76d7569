-- Rows that heat a fluid or make electricity: whether their machine does it, what one craft takes, and what electric power
-- a row draws. After the prototype documentation of Factorio 1.1 (`BoilerPrototype`, `GeneratorPrototype`,
-- `BurnerGeneratorPrototype`, `SolarPanelPrototype`) and the Factorio Wiki on power production; that a solar panel gives its
-- production always, and that machines are fractions where they draw power, is this project's own.
--
-- One craft of a row that heats is one unit of the fluid that it gives, one craft of a row that makes electricity one joule.
use Rattle.std.specs.Prelude.{ℕ, ◌||◌, Bool, true, false, not, pos, Option, Some, None, Result, Ok, Err, if◌then◌else◌}
use Rattle.fractions.specs.Fraction.{Fraction, zero_fraction, one_fraction, whole_fraction}
use Rattle.game_types.specs.declared.effects.Wide.{Wide}
use Rattle.game_types.specs.declared.goods.Fluid.{Fluid}
use Rattle.game_types.specs.declared.goods.Fuel.{Fuel}
use Rattle.game_types.specs.declared.machinery.Energy.{Energy}
use Rattle.game_types.specs.declared.machinery.Energy.TheVariants.{Burner}
use Rattle.game_types.specs.declared.machinery.Machine.{Machine}
use Rattle.game_types.specs.declared.machinery.MachineKind.{MachineKind}
use Rattle.game_types.specs.declared.machinery.MachineKind.TheVariants.{Boiler, Generator, BurnerGenerator, Solar}
use Rattle.game_types.specs.declared.setups.Activity.{Activity}
use Rattle.game_types.specs.declared.setups.Activity.TheVariants.{Generate, Boil}
use Rattle.game_types.specs.declared.setups.Setup.{Setup}
use Rattle.game_types.specs.declared.games.Game.{Game}
use Rattle.game_types.specs.Fuels.{setup_fuel}
use Rattle.game_types.specs.Lookups.{machine_at}
use Rattle.fractions.specs.Signs.{is_positive}
use Rattle.game_types.specs.Rates.{power_of, fuel_emissions}
use Rattle.game_types.specs.Steps.{◌▸◌, multiplied, divided, added, subtracted}
use Rattle.game_types.specs.Temperatures.{is_cooler, is_good}
use Rattle.power_rows.specs.declared.checks.PowerFault.{PowerFault}
use Rattle.power_rows.specs.declared.checks.PowerFault.TheVariants.{Category, NoOutput}
use Rattle.power_rows.specs.declared.rates.PowerRates.{PowerRates}
use Rattle.power_rows.specs.Inputs.{fluid_in}

-- the lesser of a limit and a number
abbrev pub at_most : Fraction → Fraction → Fraction
at_most limit x = if is_cooler limit x then limit else x

-- ---- whether the machine does it
-- generators, burner generators and solar panels make electricity, and a boiler its output
abbrev pub makes : MachineKind → Activity → Bool
makes (Generator input effectivity per_tick max_temperature burns output) Generate = true
makes (BurnerGenerator output) Generate = true
makes (Solar production) Generate = true
makes (Boiler input output temperature) (Boil good) = is_good output good.0
makes kind activity = false

-- whether a boiler with this usage heats no fluid to this temperature
abbrev pub heats_nothing : Fluid → Fraction → Fraction → Bool
heats_nothing fluid temperature usage = not (is_cooler fluid.at temperature) || not (is_positive fluid.heat_capacity) || not (is_positive usage)

-- whether there is no energy in one unit of a fluid: as a fuel, or by what it is above its default temperature
abbrev pub is_idle : Bool → Fluid → Fraction → Bool
is_idle true fluid max_temperature = not (is_positive fluid.fuel_value)
is_idle false fluid max_temperature = not (is_cooler fluid.default_temperature (at_most max_temperature fluid.at)) || not (is_positive fluid.heat_capacity)

abbrev pub is_shut : Option Fraction → Bool
is_shut None = false
is_shut (Some output) = not (is_positive output)

abbrev pub gives_nothing : Fluid → Fraction → MachineKind → Bool
gives_nothing fluid usage (Boiler input output temperature) = heats_nothing fluid temperature usage
gives_nothing fluid usage (Generator input effectivity per_tick max_temperature burns output) = is_idle burns fluid max_temperature || not (is_positive per_tick) || is_shut output
gives_nothing fluid usage (BurnerGenerator output) = not (is_positive output)
gives_nothing fluid usage (Solar production) = not (is_positive production)
gives_nothing fluid usage kind = false

-- first whether it is a machine for it, then whether it gives anything with what comes in
abbrev pub power_fits : Bool → Bool → Result (Unit {0}) PowerFault
power_fits makes_it nothing = if not makes_it then Err Category else if nothing then Err NoOutput else Ok tt

unfoldable pub checked_power : Game → Setup → Result (Unit {0}) PowerFault
checked_power g setup = power_fits (makes (machine_at g setup.machine).kind setup.activity)
    (gives_nothing (fluid_in g setup) (machine_at g setup.machine).usage (machine_at g setup.machine).kind)

-- ---- fuel, and pollution
unfoldable pub fuel_for : ℕ → Fraction → Fraction → Fraction → Result Fraction Wide
fuel_for step usage effectivity value = divided step usage effectivity ▸ λ energy. divided step energy value

-- the fuel that a burner takes for this energy; none without a burner
abbrev pub burner_fuel : ℕ → Energy → Option Fuel → Fraction → Result Fraction Wide
burner_fuel step (Burner categories effectivity) (Some fuel) usage = fuel_for step usage effectivity fuel.value
burner_fuel step energy fuel usage = Ok zero_fraction

-- step 17
unfoldable pub pollution_of : Fraction → Fraction → Fraction → Result Fraction Wide
pollution_of emissions fuel machines = multiplied 17 emissions fuel ▸ λ burnt. multiplied 17 burnt machines

-- ---- a boiler
-- step 10: the heat of one unit
unfoldable pub heat_of : Fluid → Fraction → Result Fraction Wide
heat_of fluid temperature = subtracted 10 temperature fluid.at ▸ λ rise. multiplied 10 fluid.heat_capacity rise

-- steps 10 to 12, and 17
unfoldable pub boiling : Machine → Option Fuel → Fluid → Fraction → Result PowerRates Wide
boiling machine fuel fluid temperature =
    heat_of fluid temperature ▸ λ heat.
    divided 11 heat machine.usage ▸ λ machines.
    burner_fuel 12 machine.energy fuel heat ▸ λ burnt.
    pollution_of machine.emissions (fuel_emissions fuel) machines ▸ λ pollution.
    Ok (record { machines = machines; power = power_of machine.energy heat; fuel = burnt; input = one_fraction; pollution = pollution })

-- ---- a generator
-- the energy of one unit by what it is above its default temperature
unfoldable pub warmth_of : Fluid → Fraction → Result Fraction Wide
warmth_of fluid max_temperature = subtracted 13 (at_most max_temperature fluid.at) fluid.default_temperature ▸ λ rise. multiplied 13 fluid.heat_capacity rise

abbrev pub content_of : Bool → Fluid → Fraction → Result Fraction Wide
content_of true fluid max_temperature = Ok fluid.fuel_value
content_of false fluid max_temperature = warmth_of fluid max_temperature

-- step 13: what one unit gives
unfoldable pub unit_energy : Bool → Fluid → Fraction → Fraction → Result Fraction Wide
unit_energy burns fluid max_temperature effectivity = content_of burns fluid max_temperature ▸ λ content. multiplied 13 content effectivity

abbrev pub limited : Option Fraction → Fraction → Fraction
limited None most = most
limited (Some output) most = at_most output most

-- step 14: the most that it gives; there are 60 ticks a second
unfoldable pub greatest : Fraction → Fraction → Option Fraction → Result Fraction Wide
greatest per_tick energy output =
    multiplied 14 (whole_fraction (pos 60)) per_tick ▸ λ units.
    multiplied 14 units energy ▸ λ most.
    Ok (limited output most)

-- steps 13 to 17
unfoldable pub generating : Machine → Option Fuel → Fluid → MachineKind → Result PowerRates Wide
generating machine fuel fluid (Generator input effectivity per_tick max_temperature burns output) =
    unit_energy burns fluid max_temperature effectivity ▸ λ energy.
    greatest per_tick energy output ▸ λ most.
    divided 15 one_fraction most ▸ λ machines.
    divided 16 one_fraction energy ▸ λ taken.
    pollution_of machine.emissions (fuel_emissions fuel) machines ▸ λ pollution.
    Ok (record { machines = machines; power = zero_fraction; fuel = zero_fraction; input = taken; pollution = pollution })
generating machine fuel fluid kind = Ok (record { machines = zero_fraction; power = zero_fraction; fuel = zero_fraction; input = zero_fraction; pollution = zero_fraction })

-- ---- a burner generator, and a solar panel, which has no burner: steps 15 to 17 with what they give at most
unfoldable pub burning : Machine → Option Fuel → Fraction → Result PowerRates Wide
burning machine fuel output =
    divided 15 one_fraction output ▸ λ machines.
    burner_fuel 16 machine.energy fuel one_fraction ▸ λ burnt.
    pollution_of machine.emissions (fuel_emissions fuel) machines ▸ λ pollution.
    Ok (record { machines = machines; power = zero_fraction; fuel = burnt; input = zero_fraction; pollution = pollution })

unfoldable pub shining : Machine → Option Fuel → Fraction → Result PowerRates Wide
shining machine fuel production =
    divided 15 one_fraction production ▸ λ machines.
    pollution_of machine.emissions (fuel_emissions fuel) machines ▸ λ pollution.
    Ok (record { machines = machines; power = zero_fraction; fuel = zero_fraction; input = zero_fraction; pollution = pollution })

-- ---- the rates
abbrev pub power_rates_with : Machine → Option Fuel → Fluid → MachineKind → Result PowerRates Wide
power_rates_with machine fuel fluid (Boiler input output temperature) = boiling machine fuel fluid temperature
power_rates_with machine fuel fluid (BurnerGenerator output) = burning machine fuel output
power_rates_with machine fuel fluid (Solar production) = shining machine fuel production
power_rates_with machine fuel fluid kind = generating machine fuel fluid kind

unfoldable pub power_rates_of : Game → Setup → Result PowerRates Wide
power_rates_of g setup = power_rates_with (machine_at g setup.machine) (setup_fuel g setup) (fluid_in g setup) (machine_at g setup.machine).kind

-- step 18: what one craft a second draws of electric power: each machine's drain and its beacons' power, and the power itself
unfoldable pub draw_of : Fraction → Fraction → Fraction → Fraction → Result Fraction Wide
draw_of power machines drain beacon =
    added 18 drain beacon ▸ λ each.
    multiplied 18 each machines ▸ λ always.
    added 18 always power
