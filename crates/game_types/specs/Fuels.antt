-- Which fuel a machine burns. After the prototype documentation of Factorio 1.1 (`energy_source`, `fuel_category`).
use Rattle.std.specs.Prelude.{Option, Some, None, Result, Ok, Err, if◌then◌else◌}
use Rattle.fractions.specs.Fraction.{Fraction}
use Rattle.plan_base.specs.declared.ids.GoodId.{GoodId}
use Rattle.game_types.specs.declared.goods.Fuel.{Fuel}
use Rattle.game_types.specs.declared.machinery.Energy.{Energy}
use Rattle.game_types.specs.declared.machinery.Energy.TheVariants.{Electric, Burner, Heat, Fluid, Void}
use Rattle.game_types.specs.declared.refusals.FuelFault.{FuelFault}
use Rattle.game_types.specs.declared.refusals.FuelFault.TheVariants.{NotPlanned, Needed, NotTaken, NotAccepted}
use Rattle.game_types.specs.declared.setups.Setup.{Setup}
use Rattle.game_types.specs.declared.games.Game.{Game}
use Rattle.game_types.specs.Lookups.{item_at, machine_at}
use Rattle.game_types.specs.Making.{takes_fuel}

-- what an item of a set-up is as a fuel
abbrev pub fuel_of_good : Game → Option GoodId → Option Fuel
fuel_of_good g (Some good) = (item_at g good).fuel
fuel_of_good g None = None

unfoldable pub setup_fuel : Game → Setup → Option Fuel
setup_fuel g setup = fuel_of_good g setup.fuel

-- an item that is a fuel of the burner
abbrev pub accepted : Energy → Option Fuel → Result (Option Fuel) FuelFault
accepted energy (Some fuel) = if takes_fuel energy fuel then Ok (Some fuel) else Err NotAccepted
accepted energy None = Err NotAccepted

abbrev pub without_burner : Option GoodId → Result (Option Fuel) FuelFault
without_burner None = Ok None
without_burner (Some good) = Err NotTaken

abbrev pub in_burner : Energy → Option GoodId → Option Fuel → Result (Option Fuel) FuelFault
in_burner energy None fuel = Err Needed
in_burner energy (Some good) fuel = accepted energy fuel

-- by the machine's energy: heat and fluids aren't planned, a burner needs a fuel that it takes, and all others take none
abbrev pub burnt_in : Energy → Option GoodId → Option Fuel → Result (Option Fuel) FuelFault
burnt_in Heat good fuel = Err NotPlanned
burnt_in (Fluid filter effectivity) good fuel = Err NotPlanned
burnt_in (Burner categories effectivity) good fuel = in_burner (Burner categories effectivity) good fuel
burnt_in Electric good fuel = without_burner good
burnt_in Void good fuel = without_burner good

unfoldable pub fuel_use_of : Game → Setup → Result (Option Fuel) FuelFault
fuel_use_of g setup = burnt_in (machine_at g setup.machine).energy setup.fuel (setup_fuel g setup)

-- the effectivity of a burner
abbrev pub burner_effectivity : Energy → Option Fraction
burner_effectivity (Burner categories effectivity) = Some effectivity
burner_effectivity energy = None
