-- The records of a plan, as docs/DATA.md lists their fields.
use Rattle.std.specs.Prelude.{ℕ, List, [], ◌∷◌, ◌++◌, codes, map}
use Rattle.std.specs.List.{zip}
use Rattle.fractions.specs.Fraction.{Fraction}
use Rattle.plan_base.specs.declared.ids.GoodId.{GoodId}
use Rattle.game_types.specs.declared.games.Game.{Game}
use Rattle.linear_table.specs.declared.Column.{Column}
use Rattle.linear_table.specs.declared.Column.TheVariants.{Line as TableRow, Import, Surplus, Unit as Single}
use Rattle.linear_table.specs.declared.Plan.{Plan}
use Rattle.plan_lines.specs.declared.reply.Figures.{Figures}
use Rattle.production_table.specs.declared.tables.Table.{Table}
use Rattle.production_table.specs.declared.tables.TableRow.{TableRow as Row}
use Rattle.plan_records.specs.Fields.{Fields, with_field, with_machines, with_no_machines, with_no_number, with_no_uses, with_number, with_uses}
use Rattle.plan_records.specs.Setups.{with_no_setup, with_setup}
use Rattle.report_json.specs.Values.{good_id}

-- the names of the fields
abbrev pub head_text : List ℕ
head_text =
    codes "section,name,activity,machine,fuel,modules,beacons,rate,rate_decimal,machines,machines_decimal,whole_machines,power,power_decimal,drain,drain_decimal,beacon_power,beacon_power_decimal,pollution,pollution_decimal,price,price_decimal\n"

-- what a record is of, and its name
unfoldable pub with_head : List ℕ → List ℕ → Fields → Fields
with_head section name fs = with_field name (with_field section fs)

-- a row of the table: its crafts a second, its figures, and the price of one craft
unfoldable pub row_record : Game → Row → Fraction → Figures → Fields
row_record g row rate figures =
    with_number row.price (with_uses figures (with_machines figures (with_number rate (with_setup g row.setup (with_head (codes "row") row.label [])))))

-- a good with so many a second
unfoldable pub flow_record : Game → List ℕ → GoodId → Fraction → Fields
flow_record g section good rate = with_no_number (with_no_uses (with_no_machines (with_number rate (with_no_setup (with_head section (good_id g good) [])))))

-- the price of a unit of a good
unfoldable pub price_record : Game → GoodId → Fraction → Fields
price_record g good price = with_number price (with_no_uses (with_no_machines (with_no_number (with_no_setup (with_head (codes "price") (good_id g good) [])))))

-- the table as a whole: what it uses, and its cost
unfoldable pub total_record : List ℕ → Figures → Fraction → Fields
total_record table total cost = with_number cost (with_uses total (with_no_machines (with_no_number (with_no_setup (with_head (codes "total") table [])))))

abbrev pub row_of : Game → Row × (Fraction × Figures) → Fields
row_of g row = row_record g row.0 row.1.0 row.1.1

-- what is wanted of a good
abbrev pub want_of : Game → GoodId × Fraction → Fields
want_of g want = flow_record g (codes "want") want.0 want.1

-- an import or a surplus; a row has its record elsewhere
abbrev pub streams_of : Game → Column × Fraction → List Fields
streams_of g (TableRow row, rate) = []
streams_of g (Import good, rate) = flow_record g (codes "import") good rate ∷ []
streams_of g (Surplus good, rate) = flow_record g (codes "surplus") good rate ∷ []
streams_of g (Single good, rate) = []

abbrev pub price_of : Game → GoodId × Fraction → Fields
price_of g good = price_record g good.0 good.1
