-- When a set-up can stand in a table.
use Rattle.std.specs.Prelude.{◌≡◌, ℕ, ◌<◌, ◌≤◌, ◌==◌, Bool, true, false, not, nat_lt, List, [], ◌∷◌, map, length, Option, Some, None, is_some, Result, Ok, Err, All, if◌then◌else◌}
use Rattle.std.specs.List.{list_all, list_any}
use Rattle.std.specs.List.Sorted.{IsStrictlyIncreasing}
use Rattle.std.specs.Str.{bytes_eq}
use Rattle.fractions.specs.Fraction.{Fraction, zero_fraction, ◌≤ʳ◌, ◌<ʳ◌}
use Rattle.plan_base.specs.declared.ids.GoodId.{GoodId}
use Rattle.game_types.specs.declared.recipes.Part.{Part}
use Rattle.game_types.specs.declared.refusals.BeaconFault.{BeaconFault}
use Rattle.game_types.specs.declared.refusals.FuelFault.{FuelFault}
use Rattle.game_types.specs.declared.refusals.MachineFault.{MachineFault}
use Rattle.game_types.specs.declared.refusals.ModuleFault.{ModuleFault}
use Rattle.game_types.specs.declared.setups.Activity.{Activity}
use Rattle.game_types.specs.declared.setups.Activity.TheVariants.{Craft, Mine, Pump, Generate, Boil, Research}
use Rattle.game_types.specs.declared.setups.Setup.{Setup}
use Rattle.game_types.specs.declared.games.Game.{Game}
use Rattle.game_types.specs.Beacons.{checked_beacons}
use Rattle.game_types.specs.Fuels.{fuel_use_of}
use Rattle.game_types.specs.Lookups.{recipe_at}
use Rattle.game_types.specs.Modules.{checked_modules}
use Rattle.game_types.specs.Rates.{checked_machine}
use Rattle.game_types.specs.Sound.{IsSoundSetup}
use Rattle.game_types.specs.Steps.{◌▸◌}
use Rattle.game_types.specs.Temperatures.{choice_of}
use Rattle.power_rows.specs.declared.checks.PowerFault.{PowerFault}
use Rattle.power_rows.specs.declared.inputs.Input.{Input}
use Rattle.power_rows.specs.declared.inputs.Input.TheVariants.{None as NoInput, Fluid as OfFluid, Missing}
use Rattle.power_rows.specs.Inputs.{input_of}
use Rattle.power_rows.specs.Power.{checked_power}
use Rattle.research_rows.specs.declared.labs.LabFault.{LabFault}
use Rattle.research_rows.specs.Research.{checked_lab}
use Rattle.table_rows.specs.declared.faults.SetupFault.{SetupFault}
use Rattle.table_rows.specs.declared.faults.SetupFault.TheVariants.{Temperature, Machine, Power, Lab, Fuel, Modules, Beacons}

-- ---- whether a set-up can stand in a table
-- the refusals of other parts, as those of a set-up
abbrev pub refused : {A E : Type 0} → (E → SetupFault) → Result A E → Result (Unit {0}) SetupFault
refused fault (Ok fine) = Ok tt
refused fault (Err why) = Err (fault why)

-- each ingredient has a fit
abbrev pub has_fit : Game → Setup → Part → Bool
has_fit g setup part = is_some (choice_of g setup.at part.good.0 part.low part.high)

abbrev pub is_there : Input → Bool
is_there Missing = false
is_there NoInput = true
is_there (OfFluid good) = true

-- every ingredient has a fit, and what a boiler or a generator takes in is known
abbrev pub has_fits : Game → Setup → Activity → Bool
has_fits g setup (Craft recipe) = list_all (has_fit g setup) (recipe_at g recipe).ingredients
has_fits g setup Generate = is_there (input_of g setup)
has_fits g setup (Boil good) = is_there (input_of g setup)
has_fits g setup activity = true

unfoldable pub checked_fits : Game → Setup → Result (Unit {0}) SetupFault
checked_fits g setup = if has_fits g setup setup.activity then Ok tt else Err Temperature

abbrev pub does : Game → Setup → Activity → Result (Unit {0}) SetupFault
does g setup Generate = refused Power (checked_power g setup)
does g setup (Boil good) = refused Power (checked_power g setup)
does g setup (Research tech) = refused Lab (checked_lab g setup)
does g setup activity = refused Machine (checked_machine g setup)

unfoldable pub checked_rest : Game → Setup → Result (Unit {0}) SetupFault
checked_rest g setup =
    refused Fuel (fuel_use_of g setup) ▸ λ _.
    refused Modules (checked_modules g setup) ▸ λ _.
    refused Beacons (checked_beacons g setup)

-- the refusals of a set-up, in order: temperatures, the machine, its fuel, its modules, its beacons
unfoldable pub checked_setup : Game → Setup → Result (Unit {0}) SetupFault
checked_setup g setup =
    checked_fits g setup ▸ λ _.
    does g setup setup.activity ▸ λ _.
    checked_rest g setup

-- what each row of a table is on a game
abbrev pub IsFitting : Game → Setup → Type 0
IsFitting g setup = IsSoundSetup g setup × (checked_setup g setup ≡ Ok tt)

-- what heats or makes electricity
abbrev pub IsPower : Activity → Type 0
IsPower Generate = Unit {0}
IsPower (Boil good) = Unit {0}
IsPower activity = ⊥
