-- The column of a row: what one craft a second adds to each good, or the first step that is past the limits of fractions.
--
-- A row's column is a list of contributions, each a good and an amount, in a stated order. They are summed good by good, in
-- that order. The goods of a column rise; a good that is mentioned stands there even where its sum is 0. The effects, after
-- the Factorio Wiki on modules, beacons and crafting speed, and the numbers of machines, fuel and power are those of the row's
-- rates; that contributions are formed and summed in this order is this project's own.
--
-- The steps are tried in this order, and the first that is wide is the row's answer. Of rows that craft, mine or pump: 1 to 9
-- and 18. Of rows that heat or make electricity: 10 to 17, 8, 9, 18. Of rows that research: 1, 2, 3, 19, 20, 6, 21, 22, 8,
-- 9, 18. Step 18 is tried only in tables that balance their electric power.
use Rattle.std.specs.Prelude.{ℕ, ◌+◌, ◌==◌, Bool, true, false, nat_lt, List, [], ◌∷◌, ◌++◌, map, length, Option, Some, None, Result, Ok, Err, if◌then◌else◌}
use Rattle.fractions.specs.Fraction.{Fraction, zero_fraction, one_fraction, negated}
use Rattle.plan_base.specs.declared.ids.GoodId.{GoodId}
use Rattle.plan_base.specs.declared.ids.TechId.{TechId}
use Rattle.game_types.specs.declared.effects.BeaconSum.{BeaconSum}
use Rattle.game_types.specs.declared.effects.Effects.{Effects}
use Rattle.game_types.specs.declared.effects.Rates.{Rates}
use Rattle.game_types.specs.declared.effects.Wide.{Wide}
use Rattle.game_types.specs.declared.recipes.Part.{Part}
use Rattle.game_types.specs.declared.recipes.Product.{Product}
use Rattle.game_types.specs.declared.setups.Activity.{Activity}
use Rattle.game_types.specs.declared.setups.Activity.TheVariants.{Craft, Mine, Pump, Generate, Boil, Research}
use Rattle.game_types.specs.declared.setups.Setup.{Setup}
use Rattle.game_types.specs.declared.games.Game.{Game}
use Rattle.game_types.specs.Beacons.{bonus_sums, beacon_power_of}
use Rattle.game_types.specs.Goods.{electricity, units_good}
use Rattle.game_types.specs.Lookups.{item_at, machine_at, recipe_at, source_at}
use Rattle.game_types.specs.Modules.{bonus_of}
use Rattle.game_types.specs.Rates.{effects_with, power_of, rates_of, yield_of}
use Rattle.game_types.specs.Steps.{◌▸◌, added}
use Rattle.game_types.specs.Temperatures.{choice_of}
use Rattle.power_rows.specs.declared.inputs.Input.{Input}
use Rattle.power_rows.specs.declared.inputs.Input.TheVariants.{None as NoInput, Fluid as OfFluid, Missing}
use Rattle.power_rows.specs.declared.rates.PowerRates.{PowerRates}
use Rattle.power_rows.specs.Inputs.{or_good, input_of}
use Rattle.power_rows.specs.Power.{power_rates_of, draw_of}
use Rattle.research_rows.specs.declared.labs.LabRates.{LabRates}
use Rattle.research_rows.specs.Research.{lab_rates_of, tech_at}
use Rattle.table_rows.specs.declared.rates.RowRates.{RowRates}

-- ---- the rates of a row
abbrev pub plain_effects : Effects
plain_effects = record { speed = one_fraction; productivity = zero_fraction; consumption = one_fraction; pollution = one_fraction }

-- step 3: a pump has no effects
abbrev pub effects_by : Game → Setup → BeaconSum → Activity → Result Effects Wide
effects_by g setup beacons (Pump good) = Ok plain_effects
effects_by g setup beacons activity = effects_with (machine_at g setup.machine).base_productivity (bonus_of g setup.modules) beacons

-- steps 1 to 3
unfoldable pub effects_of : Game → Setup → Result Effects Wide
effects_of g setup = bonus_sums g setup.beacons ▸ λ beacons. effects_by g setup beacons setup.activity

-- what crafts, mines or pumps: steps 1 to 7
unfoldable pub worked_rates : Game → Setup → Result RowRates Wide
worked_rates g setup =
    effects_of g setup ▸ λ effects.
    rates_of g setup effects ▸ λ rates.
    Ok (record { effects = effects; rates = rates; input = zero_fraction; units = zero_fraction })

abbrev pub with_power : Fraction → PowerRates → RowRates
with_power drain power = record {
  effects = plain_effects;
  rates = record { machines = power.machines; power = power.power; drain = drain; fuel = power.fuel; pollution = power.pollution };
  input = power.input;
  units = zero_fraction;
}

-- what heats or makes electricity: steps 10 to 17
unfoldable pub powered_rates : Game → Setup → Result RowRates Wide
powered_rates g setup = power_rates_of g setup ▸ λ power. Ok (with_power (machine_at g setup.machine).drain power)

abbrev pub with_labs : Game → Setup → Effects → LabRates → RowRates
with_labs g setup effects labs = record {
  effects = effects;
  rates = record { machines = labs.machines; power = power_of (machine_at g setup.machine).energy labs.usage; drain = (machine_at g setup.machine).drain; fuel = labs.fuel; pollution = labs.pollution };
  input = zero_fraction;
  units = labs.units;
}

-- what researches: steps 1, 2, 3, 19, 20, 6, 21 and 22
unfoldable pub research_rates : Game → Setup → Result RowRates Wide
research_rates g setup =
    effects_of g setup ▸ λ effects.
    lab_rates_of g setup effects ▸ λ labs.
    Ok (with_labs g setup effects labs)

abbrev pub rates_by : Game → Setup → Activity → Result RowRates Wide
rates_by g setup Generate = powered_rates g setup
rates_by g setup (Boil good) = powered_rates g setup
rates_by g setup (Research tech) = research_rates g setup
rates_by g setup activity = worked_rates g setup

unfoldable pub row_rates_of : Game → Setup → Result RowRates Wide
row_rates_of g setup = rates_by g setup setup.activity

-- ---- the contributions of a row, in order: what it gives, what it takes, its fuel, what that leaves
abbrev pub Contribution : Type 0
Contribution = GoodId × Result Fraction Wide

abbrev pub gives : GoodId → Fraction → Contribution
gives good amount = (good, Ok amount)

abbrev pub takes : GoodId → Fraction → Contribution
takes good amount = (good, Ok (negated amount))

abbrev pub given : Fraction → Product → Contribution
given productivity product = (product.good, yield_of product productivity)

-- an ingredient is taken of its choice
abbrev pub taken : Game → Setup → Part → Contribution
taken g setup part = takes (or_good part.good (choice_of g setup.at part.good.0 part.low part.high)) part.amount

abbrev pub source_fluid : Game → Setup → Option (GoodId × Fraction) → List Contribution
source_fluid g setup None = []
source_fluid g setup (Some fluid) = takes (or_good fluid.0 (choice_of g setup.at fluid.0.0 None None)) fluid.1 ∷ []

abbrev pub input_taken : Fraction → Input → List Contribution
input_taken amount (OfFluid good) = takes good amount ∷ []
input_taken amount input = []

abbrev pub pack_taken : GoodId × Fraction → Contribution
pack_taken pack = takes pack.0 pack.1

abbrev pub activity_parts : Game → Setup → RowRates → Activity → List Contribution
activity_parts g setup row (Craft recipe) =
    map (given row.effects.productivity) (recipe_at g recipe).products ++ map (taken g setup) (recipe_at g recipe).ingredients
activity_parts g setup row (Mine source) =
    map (given row.effects.productivity) (source_at g source).products ++ source_fluid g setup (source_at g source).fluid
activity_parts g setup row (Pump good) = gives good one_fraction ∷ []
activity_parts g setup row Generate = gives (electricity g) one_fraction ∷ input_taken row.input (input_of g setup)
activity_parts g setup row (Boil good) = gives good one_fraction ∷ input_taken row.input (input_of g setup)
activity_parts g setup row (Research tech) = gives (units_good g tech) row.units ∷ map pack_taken (tech_at g tech).ingredients

abbrev pub burnt_parts : Option GoodId → Fraction → List Contribution
burnt_parts None amount = []
burnt_parts (Some good) amount = gives good amount ∷ []

abbrev pub fuel_parts : Game → Option GoodId → Fraction → List Contribution
fuel_parts g None amount = []
fuel_parts g (Some fuel) amount = takes fuel amount ∷ burnt_parts (item_at g fuel).burnt amount

abbrev pub contributions : Game → Setup → RowRates → List Contribution
contributions g setup row = activity_parts g setup row setup.activity ++ fuel_parts g setup.fuel row.rates.fuel

-- ---- summing them
-- a column with an amount added to a good; the goods of a column rise. To add a number to 0 is never wide
unfoldable pub with_part : ℕ → GoodId → Fraction → List (GoodId × Fraction) → Result (List (GoodId × Fraction)) Wide
with_part step good amount [] = Ok ((good, amount) ∷ [])
with_part step good amount (p ∷ ps) =
    if nat_lt good.0 p.0.0 then Ok ((good, amount) ∷ p ∷ ps)
    else if good.0 == p.0.0 then (added step p.1 amount ▸ λ sum. Ok ((good, sum) ∷ ps))
    else (with_part step good amount ps ▸ λ rest. Ok (p ∷ rest))

-- step 8: a column with a contribution, and with contributions added one by one
unfoldable pub contributed : Contribution → List (GoodId × Fraction) → Result (List (GoodId × Fraction)) Wide
contributed c column = c.1 ▸ λ amount. with_part 8 c.0 amount column

unfoldable pub summed : List (GoodId × Fraction) → List Contribution → Result (List (GoodId × Fraction)) Wide
summed column [] = Ok column
summed column (c ∷ cs) = contributed c column ▸ λ more. summed more cs

-- step 18: what the row draws is taken from electricity, which it mentions even where that is 0
unfoldable pub drawn : Game → Rates → Fraction → List (GoodId × Fraction) → Result (List (GoodId × Fraction)) Wide
drawn g rates beacons column = draw_of rates.power rates.machines rates.drain beacons ▸ λ draw. with_part 18 (electricity g) (negated draw) column

abbrev pub drawn_where : Bool → Game → Rates → Fraction → List (GoodId × Fraction) → Result (List (GoodId × Fraction)) Wide
drawn_where true g rates beacons column = drawn g rates beacons column
drawn_where false g rates beacons column = Ok column

-- the column of a set-up in a table that balances its electric power, or doesn't
unfoldable pub column_of : Game → Bool → Setup → Result (List (GoodId × Fraction)) Wide
column_of g power setup =
    row_rates_of g setup ▸ λ row.
    summed [] (contributions g setup row) ▸ λ column.
    beacon_power_of g setup ▸ λ beacons.
    drawn_where power g row.rates beacons column

-- what a set-up's row is asked for alone: its effects, its rates, and the power of its beacons. Neither step 8 nor step 18
unfoldable pub figures_of : Game → Setup → Result (Effects × Rates × Fraction) Wide
figures_of g setup = row_rates_of g setup ▸ λ row. beacon_power_of g setup ▸ λ beacons. Ok (row.effects, row.rates, beacons)
