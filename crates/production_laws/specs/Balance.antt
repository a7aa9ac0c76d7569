-- What a table's plans say of each good, of electricity and of technologies.
use Rattle.std.specs.Prelude.{◌≡◌, ◌==◌, ◌+◌, ℕ, drop, if◌then◌else◌, Bool, List, [], ◌∷◌, Result, Ok, Err, length}
use Rattle.fractions.specs.Fraction.{Fraction, zero_fraction, one_fraction, ◌+ʳ◌, ◌*ʳ◌, ◌≤ʳ◌}
use Rattle.plan_base.specs.declared.ids.GoodId.{GoodId}
use Rattle.plan_base.specs.declared.ids.TechId.{TechId}
use Rattle.game_types.specs.declared.effects.Wide.{Wide}
use Rattle.game_types.specs.declared.setups.Activity.{Activity}
use Rattle.game_types.specs.declared.setups.Activity.TheVariants.{Generate, Research}
use Rattle.game_types.specs.declared.setups.Setup.{Setup}
use Rattle.game_types.specs.declared.games.Game.{Game}
use Rattle.game_types.specs.Beacons.{beacon_power_of}
use Rattle.game_types.specs.Goods.{electricity, units_good}
use Rattle.game_types.specs.Steps.{◌▸◌}
use Rattle.linear_table.specs.Plans.{number_at}
use Rattle.power_rows.specs.Power.{draw_of}
use Rattle.table_rows.specs.declared.rates.RowRates.{RowRates}
use Rattle.table_rows.specs.Columns.{column_of, row_rates_of}
use Rattle.production_table.specs.declared.tables.Table.{Table}
use Rattle.production_table.specs.declared.tables.TableRow.{TableRow}
use Rattle.production_table.specs.Linear.{want_of}
use Rattle.production_laws.specs.Amounts.{amount_in, or_zero, where_same}

-- ---- the rates of a plan stand in the order of rows, imports and surpluses
-- the rates of rows, each times what its row has of something, summed
abbrev pub weighted : (TableRow → Fraction) → List TableRow → List Fraction → Fraction
weighted of [] rates = zero_fraction
weighted of (row ∷ rows) [] = zero_fraction
weighted of (row ∷ rows) (rate ∷ rates) = of row *ʳ rate +ʳ weighted of rows rates

-- the rate at which a good comes in, or goes out: the rates that stand at it, summed
abbrev pub rate_of : List (GoodId × Fraction) → List Fraction → GoodId → Fraction
rate_of [] rates good = zero_fraction
rate_of (pair ∷ pairs) [] good = zero_fraction
rate_of (pair ∷ pairs) (rate ∷ rates) good = where_same pair.0 good rate +ʳ rate_of pairs rates good

abbrev pub imported : Table → List Fraction → GoodId → Fraction
imported t rates good = rate_of t.imports (drop (length t.rows) rates) good

abbrev pub left_over : Table → List Fraction → GoodId → Fraction
left_over t rates good = rate_of t.surpluses (drop (length t.imports) (drop (length t.rows) rates)) good

-- ---- a good: what rows give less what they take, and what comes in, is what is wanted and what goes out
abbrev pub column_amount : Result (List (GoodId × Fraction)) Wide → GoodId → Fraction
column_amount (Ok column) good = amount_in column good
column_amount (Err wide) good = zero_fraction

abbrev pub row_amount : Game → Bool → GoodId → TableRow → Fraction
row_amount g power good row = column_amount (column_of g power row.setup) good

abbrev pub GoodBalance : Game → Table → List Fraction → GoodId → Type 0
GoodBalance g t rates good =
    weighted (row_amount g t.power good) t.rows rates +ʳ imported t rates good ≡ want_of t.wants good +ʳ left_over t rates good

-- ---- the plans of a table, and what they cost
-- a rate for each row, import and surplus, in this order, none below 0, which balance every good
pub record IsTablePlan (g : Game) (t : Table) (rates : List Fraction) : Type 0 where
  pub length_is : length rates ≡ length t.rows + (length t.imports + length t.surpluses)
  pub nonneg : (j : ℕ) → zero_fraction ≤ʳ number_at rates j
  pub balances : (good : GoodId) → GoodBalance g t rates good

-- the rates of goods that come in or go out, each times its price, summed
abbrev pub priced : List (GoodId × Fraction) → List Fraction → Fraction
priced [] rates = zero_fraction
priced (pair ∷ pairs) [] = zero_fraction
priced (pair ∷ pairs) (rate ∷ rates) = rate *ʳ pair.1 +ʳ priced pairs rates

abbrev pub row_price : TableRow → Fraction
row_price row = row.price

abbrev pub table_cost : Table → List Fraction → Fraction
table_cost t rates =
    weighted row_price t.rows rates +ʳ (priced t.imports (drop (length t.rows) rates) +ʳ priced t.surpluses (drop (length t.imports) (drop (length t.rows) rates)))

-- ---- electricity
-- one joule a craft of rows that make it, nothing of others
abbrev pub joules : Activity → Fraction
joules Generate = one_fraction
joules activity = zero_fraction

abbrev pub generated : TableRow → Fraction
generated row = joules row.setup.activity

-- what one craft a second of a row draws
unfoldable pub setup_draw : Game → Setup → Result Fraction Wide
setup_draw g setup =
    row_rates_of g setup ▸ λ row.
    beacon_power_of g setup ▸ λ beacons.
    draw_of row.rates.power row.rates.machines row.rates.drain beacons

abbrev pub drawn : Game → TableRow → Fraction
drawn g row = or_zero (setup_draw g row.setup)

-- what is made and what comes in is what is drawn, what is wanted and what goes out
abbrev pub PowerBalance : Game → Table → List Fraction → Type 0
PowerBalance g t rates =
    weighted generated t.rows rates +ʳ imported t rates (electricity g)
    ≡ weighted (drawn g) t.rows rates +ʳ want_of t.wants (electricity g) +ʳ left_over t rates (electricity g)

-- ---- technologies
-- the units of a technology that one craft of a row gives
abbrev pub units_given : Result RowRates Wide → Fraction
units_given (Ok row) = row.units
units_given (Err wide) = zero_fraction

abbrev pub units_by : Game → TechId → Setup → Activity → Fraction
units_by g tech setup (Research other) = if other.0 == tech.0 then units_given (row_rates_of g setup) else zero_fraction
units_by g tech setup activity = zero_fraction

abbrev pub units_of : Game → TechId → TableRow → Fraction
units_of g tech row = units_by g tech row.setup row.setup.activity

-- what rows research and what comes in is what is wanted and what goes out
abbrev pub ResearchBalance : Game → Table → TechId → List Fraction → Type 0
ResearchBalance g t tech rates =
    weighted (units_of g tech) t.rows rates +ʳ imported t rates (units_good g tech) ≡ want_of t.wants (units_good g tech) +ʳ left_over t rates (units_good g tech)
