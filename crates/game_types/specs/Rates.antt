-- The rates of one set-up: whether the machine does what it is set to do, the effects on it, and what one craft a second
-- takes. After the Factorio Wiki on crafting speed, modules and beacons; the floors of the effects are this project's own.
--
-- Speeds are in crafts (or seconds of mining time) a second, energies in joules, powers in watts, pollution in units a
-- minute. One craft of a drill is one operation on the source, one craft of a pump one unit of fluid.
use Rattle.std.specs.Prelude.{◌==◌, ◌&&◌, Bool, true, false, not, ℤ, pos, Option, Some, None, Result, Ok, Err, if◌then◌else◌}
use Rattle.fractions.specs.Fraction.{Fraction, zero_fraction, one_fraction, whole_fraction, frac}
use Rattle.plan_base.specs.declared.ids.EntityId.{EntityId}
use Rattle.plan_base.specs.declared.ids.GoodId.{GoodId}
use Rattle.plan_base.specs.declared.ids.RecipeId.{RecipeId}
use Rattle.game_types.specs.declared.effects.BeaconSum.{BeaconSum}
use Rattle.game_types.specs.declared.effects.Bonus.{Bonus}
use Rattle.game_types.specs.declared.effects.Effects.{Effects}
use Rattle.game_types.specs.declared.effects.Rates.{Rates}
use Rattle.game_types.specs.declared.effects.Wide.{Wide}
use Rattle.game_types.specs.declared.goods.Fuel.{Fuel}
use Rattle.game_types.specs.declared.machinery.Machine.{Machine}
use Rattle.game_types.specs.declared.machinery.MachineKind.{MachineKind}
use Rattle.game_types.specs.declared.machinery.MachineKind.TheVariants.{Crafter, Drill, Pump}
use Rattle.game_types.specs.declared.machinery.Energy.{Energy}
use Rattle.game_types.specs.declared.machinery.Energy.TheVariants.{Electric, Burner}
use Rattle.game_types.specs.declared.recipes.Product.{Product}
use Rattle.game_types.specs.declared.recipes.Recipe.{Recipe}
use Rattle.game_types.specs.declared.recipes.Source.{Source}
use Rattle.game_types.specs.declared.refusals.MachineFault.{MachineFault}
use Rattle.game_types.specs.declared.refusals.MachineFault.TheVariants.{Category, Fixed, NoBox}
use Rattle.game_types.specs.declared.setups.Activity.{Activity}
use Rattle.game_types.specs.declared.setups.Activity.TheVariants.{Craft, Mine, Pump as Pumping}
use Rattle.game_types.specs.declared.setups.Setup.{Setup}
use Rattle.game_types.specs.declared.games.Game.{Game}
use Rattle.game_types.specs.Fuels.{setup_fuel}
use Rattle.game_types.specs.Lookups.{machine_at, recipe_at, source_at}
use Rattle.game_types.specs.Making.{holds, is_fixed_to_another}
use Rattle.game_types.specs.Steps.{◌▸◌, multiplied, divided, added, subtracted, at_least}

-- ---- whether a machine does what it is set to do
-- a crafter of the recipe's category that isn't fixed to another recipe; of a launch its silo
abbrev pub crafts : MachineKind → RecipeId → Recipe → Result (Unit {0}) MachineFault
crafts (Crafter speed categories fixed) number recipe =
    if not (holds categories recipe.category) then Err Category
    else if is_fixed_to_another fixed number.0 then Err Fixed
    else Ok tt
crafts kind number recipe = Err Category

abbrev pub crafts_or_launches : EntityId → MachineKind → RecipeId → Recipe → Option EntityId → Result (Unit {0}) MachineFault
crafts_or_launches machine kind number recipe None = crafts kind number recipe
crafts_or_launches machine kind number recipe (Some silo) = if silo.0 == machine.0 then Ok tt else Err Category

abbrev pub has_box : Bool → Option (GoodId × Fraction) → Result (Unit {0}) MachineFault
has_box fluid_box None = Ok tt
has_box true (Some fluid) = Ok tt
has_box false (Some fluid) = Err (NoBox fluid.0)

-- a drill of the category of a drilled source, with a box where the source needs a fluid
abbrev pub mines : MachineKind → Source → Result (Unit {0}) MachineFault
mines (Drill speed categories fluid_box) source =
    if source.drilled && holds categories source.category then has_box fluid_box source.fluid else Err Category
mines kind source = Err Category

-- a pump of the fluid
abbrev pub pumps : MachineKind → GoodId → Result (Unit {0}) MachineFault
pumps (Pump fluid speed) good = if fluid.0 == good.0 then Ok tt else Err Category
pumps kind good = Err Category

abbrev pub does : Game → EntityId → MachineKind → Activity → Result (Unit {0}) MachineFault
does g machine kind (Craft recipe) = crafts_or_launches machine kind recipe (recipe_at g recipe) (recipe_at g recipe).launch
does g machine kind (Mine source) = mines kind (source_at g source)
does g machine kind (Pumping good) = pumps kind good
does g machine kind activity = Err Category

unfoldable pub checked_machine : Game → Setup → Result (Unit {0}) MachineFault
checked_machine g setup = does g setup.machine (machine_at g setup.machine).kind setup.activity

-- ---- step 3: effects
-- what beacons add, plus the modules' hundredths divided by 100
unfoldable pub bonus_with : Fraction → ℤ → Result Fraction Wide
bonus_with beacons hundredths = divided 3 (whole_fraction hundredths) (whole_fraction (pos 100)) ▸ λ modules. added 3 beacons modules

-- one more than the bonus, and at least a fifth
unfoldable pub multiplier : Fraction → ℤ → Result Fraction Wide
multiplier beacons hundredths =
    bonus_with beacons hundredths ▸ λ bonus.
    added 3 bonus one_fraction ▸ λ value.
    Ok (at_least (frac (pos 1) 5) value)

-- the bonus and what the machine has without modules, and at least 0
unfoldable pub productivity_with : Fraction → Fraction → ℤ → Result Fraction Wide
productivity_with base beacons hundredths =
    bonus_with beacons hundredths ▸ λ bonus.
    added 3 bonus base ▸ λ value.
    Ok (at_least zero_fraction value)

unfoldable pub effects_with : Fraction → Bonus → BeaconSum → Result Effects Wide
effects_with base modules beacons =
    multiplier beacons.speed modules.speed ▸ λ speed.
    productivity_with base beacons.productivity modules.productivity ▸ λ productivity.
    multiplier beacons.consumption modules.consumption ▸ λ consumption.
    multiplier beacons.pollution modules.pollution ▸ λ pollution.
    Ok (record { speed = speed; productivity = productivity; consumption = consumption; pollution = pollution })

-- ---- step 4: machines for one craft a second
-- the seconds of one craft at a speed of 1
abbrev pub craft_time : Game → Activity → Fraction
craft_time g (Craft recipe) = (recipe_at g recipe).time
craft_time g (Mine source) = (source_at g source).time
craft_time g activity = zero_fraction

unfoldable pub machines_at : Fraction → Fraction → Fraction → Result Fraction Wide
machines_at time speed multiplier = divided 4 time speed ▸ λ at_speed. divided 4 at_speed multiplier

-- a pump gives 60 times its speed a second
unfoldable pub pumps_at : Fraction → Result Fraction Wide
pumps_at speed = multiplied 4 (whole_fraction (pos 60)) speed ▸ λ units. divided 4 one_fraction units

abbrev pub machines_of : Game → MachineKind → Activity → Fraction → Result Fraction Wide
machines_of g (Crafter speed categories fixed) activity multiplier = machines_at (craft_time g activity) speed multiplier
machines_of g (Drill speed categories fluid_box) activity multiplier = machines_at (craft_time g activity) speed multiplier
machines_of g (Pump fluid speed) activity multiplier = pumps_at speed
machines_of g kind activity multiplier = Ok zero_fraction

-- ---- step 5: what the machines use, in watts
unfoldable pub use_of : Fraction → Fraction → Fraction → Result Fraction Wide
use_of usage consumption machines = multiplied 5 usage consumption ▸ λ each. multiplied 5 each machines

-- of electric machines it is electric power
abbrev pub power_of : Energy → Fraction → Fraction
power_of Electric usage = usage
power_of energy usage = zero_fraction

-- ---- step 6: fuel for one craft; none without a burner
unfoldable pub fuel_for : Fraction → Fraction → Fraction → Result Fraction Wide
fuel_for usage effectivity value = divided 6 usage effectivity ▸ λ energy. divided 6 energy value

abbrev pub fuel_of : Energy → Option Fuel → Fraction → Result Fraction Wide
fuel_of (Burner categories effectivity) (Some fuel) usage = fuel_for usage effectivity fuel.value
fuel_of energy fuel usage = Ok zero_fraction

-- ---- step 7: pollution a minute
abbrev pub recipe_emissions : Game → Activity → Fraction
recipe_emissions g (Craft recipe) = (recipe_at g recipe).emissions
recipe_emissions g activity = one_fraction

abbrev pub fuel_emissions : Option Fuel → Fraction
fuel_emissions (Some fuel) = fuel.emissions
fuel_emissions None = one_fraction

unfoldable pub pollution_of : Fraction → Effects → Fraction → Fraction → Fraction → Result Fraction Wide
pollution_of emissions effects recipe fuel machines =
    multiplied 7 emissions effects.consumption ▸ λ used.
    multiplied 7 used effects.pollution ▸ λ polluted.
    multiplied 7 polluted recipe ▸ λ of_recipe.
    multiplied 7 of_recipe fuel ▸ λ of_fuel.
    multiplied 7 of_fuel machines

-- ---- the rates
unfoldable pub rates_with : Game → Machine → Activity → Option Fuel → Effects → Result Rates Wide
rates_with g machine activity fuel effects =
    machines_of g machine.kind activity effects.speed ▸ λ machines.
    use_of machine.usage effects.consumption machines ▸ λ usage.
    fuel_of machine.energy fuel usage ▸ λ burnt.
    pollution_of machine.emissions effects (recipe_emissions g activity) (fuel_emissions fuel) machines ▸ λ pollution.
    Ok (record { machines = machines; power = power_of machine.energy usage; drain = machine.drain; fuel = burnt; pollution = pollution })

unfoldable pub rates_of : Game → Setup → Effects → Result Rates Wide
rates_of g setup effects = rates_with g (machine_at g setup.machine) setup.activity (setup_fuel g setup) effects

-- ---- a product's part of step 8: what one craft gives of it. With the mean amount a of low and high it is probability
-- times a, plus probability times what a is above the catalyst, times productivity
unfoldable pub yield_of : Product → Fraction → Result Fraction Wide
yield_of product productivity =
    added 8 product.low product.high ▸ λ twice.
    divided 8 twice (whole_fraction (pos 2)) ▸ λ amount.
    multiplied 8 product.probability amount ▸ λ expected.
    subtracted 8 amount product.catalyst ▸ λ above.
    multiplied 8 product.probability (at_least zero_fraction above) ▸ λ free.
    multiplied 8 free productivity ▸ λ more.
    added 8 expected more
