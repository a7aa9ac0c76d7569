-- Rows that research: whether the machine is a lab for the technology, and what one craft takes. After the prototype
-- documentation of Factorio 1.1 (`LabPrototype`, `TechnologyPrototype`); the durability of science packs and what researched
-- technologies add to labs don't count here.
--
-- One craft is one unit of a technology.
use Rattle.std.specs.Prelude.{ℕ, ◌==◌, Bool, true, false, List, [], Option, Some, None, Result, Ok, Err, if◌then◌else◌, slice_index_or}
use Rattle.std.specs.List.{list_all, list_any}
use Rattle.fractions.specs.Fraction.{Fraction, zero_fraction, one_fraction}
use Rattle.plan_base.specs.declared.ids.GoodId.{GoodId}
use Rattle.plan_base.specs.declared.ids.TechId.{TechId}
use Rattle.game_types.specs.declared.effects.Effects.{Effects}
use Rattle.game_types.specs.declared.effects.Wide.{Wide}
use Rattle.game_types.specs.declared.goods.Fuel.{Fuel}
use Rattle.game_types.specs.declared.machinery.Machine.{Machine}
use Rattle.game_types.specs.declared.machinery.MachineKind.{MachineKind}
use Rattle.game_types.specs.declared.machinery.MachineKind.TheVariants.{Lab}
use Rattle.game_types.specs.declared.research.Tech.{Tech}
use Rattle.game_types.specs.declared.setups.Activity.{Activity}
use Rattle.game_types.specs.declared.setups.Activity.TheVariants.{Research}
use Rattle.game_types.specs.declared.setups.Setup.{Setup}
use Rattle.game_types.specs.declared.games.Game.{Game}
use Rattle.game_types.specs.Fuels.{setup_fuel}
use Rattle.game_types.specs.Lookups.{machine_at}
use Rattle.game_types.specs.Rates.{fuel_of, fuel_emissions}
use Rattle.game_types.specs.Steps.{◌▸◌, multiplied, divided, added}
use Rattle.research_rows.specs.declared.labs.LabFault.{LabFault}
use Rattle.research_rows.specs.declared.labs.LabFault.TheVariants.{Category}
use Rattle.research_rows.specs.declared.labs.LabRates.{LabRates}

unfoldable pub no_tech : Tech
no_tech = record { enabled = false; prerequisites = []; unlocks = []; ingredients = []; count = None; time = zero_fraction }

unfoldable pub tech_at : Game → TechId → Tech
tech_at g tech = slice_index_or g.techs tech.0 no_tech

-- ---- whether the machine does it: a lab that takes each ingredient
abbrev pub takes : List GoodId → GoodId → Bool
takes inputs good = list_any (λ input. input.0 == good.0) inputs

abbrev pub researches : MachineKind → Tech → Bool
researches (Lab inputs speed) tech = list_all (λ part. takes inputs part.0) tech.ingredients
researches kind tech = false

abbrev pub lab_fits : Game → MachineKind → Activity → Bool
lab_fits g kind (Research tech) = researches kind (tech_at g tech)
lab_fits g kind activity = false

unfoldable pub checked_lab : Game → Setup → Result (Unit {0}) LabFault
checked_lab g setup = if lab_fits g (machine_at g setup.machine).kind setup.activity then Ok tt else Err Category

-- ---- the rates
-- step 19: machines for one unit a second
unfoldable pub labs_for : Fraction → Fraction → Fraction → Result Fraction Wide
labs_for time speed multiplier = divided 19 time speed ▸ λ at_speed. divided 19 at_speed multiplier

abbrev pub labs_at : MachineKind → Fraction → Fraction → Result Fraction Wide
labs_at (Lab inputs speed) time multiplier = labs_for time speed multiplier
labs_at kind time multiplier = Ok zero_fraction

-- the seconds of one unit at a speed of 1
abbrev pub unit_time : Game → Activity → Fraction
unit_time g (Research tech) = (tech_at g tech).time
unit_time g activity = zero_fraction

-- step 20: what they use, in watts
unfoldable pub lab_use : Fraction → Fraction → Fraction → Result Fraction Wide
lab_use usage consumption machines = multiplied 20 usage consumption ▸ λ each. multiplied 20 each machines

-- step 22: pollution a minute
unfoldable pub lab_pollution : Fraction → Effects → Fraction → Fraction → Result Fraction Wide
lab_pollution emissions effects fuel machines =
    multiplied 22 emissions effects.consumption ▸ λ used.
    multiplied 22 used effects.pollution ▸ λ polluted.
    multiplied 22 polluted fuel ▸ λ of_fuel.
    multiplied 22 of_fuel machines

-- steps 19, 20, 6, 21 and 22; step 21 is one unit and the productivity
unfoldable pub lab_rates_with : Machine → Fraction → Option Fuel → Effects → Result LabRates Wide
lab_rates_with machine time fuel effects =
    labs_at machine.kind time effects.speed ▸ λ machines.
    lab_use machine.usage effects.consumption machines ▸ λ usage.
    fuel_of machine.energy fuel usage ▸ λ burnt.
    added 21 one_fraction effects.productivity ▸ λ units.
    lab_pollution machine.emissions effects (fuel_emissions fuel) machines ▸ λ pollution.
    Ok (record { machines = machines; usage = usage; fuel = burnt; units = units; pollution = pollution })

unfoldable pub lab_rates_of : Game → Setup → Effects → Result LabRates Wide
lab_rates_of g setup effects = lab_rates_with (machine_at g setup.machine) (unit_time g setup.activity) (setup_fuel g setup) effects
