-- The text of a table with its plan: records of comma-separated values, the names of the fields first.
use Rattle.std.specs.Prelude.{ℕ, List, [], ◌∷◌, ◌++◌, map}
use Rattle.std.specs.List.{flat_map, zip}
use Rattle.csv.specs.Writing.{default_writer, row_text}
use Rattle.plan_base.specs.declared.ids.GoodId.{GoodId}
use Rattle.game_types.specs.declared.games.Game.{Game}
use Rattle.linear_table.specs.declared.Column.{Column}
use Rattle.linear_table.specs.declared.Plan.{Plan}
use Rattle.plan_lines.specs.declared.reply.Figures.{Figures}
use Rattle.production_table.specs.declared.tables.Table.{Table}
use Rattle.plan_records.specs.Fields.{Fields}
use Rattle.plan_records.specs.Records.{head_text, price_of, row_of, streams_of, total_record, want_of}

-- the text of a record
abbrev pub record_text : Fields → List ℕ
record_text fields = row_text default_writer fields

abbrev pub records_text : List Fields → List ℕ
records_text records = flat_map record_text records

-- the rows, what is wanted, imports and surpluses, the prices of goods, and the table as a whole
unfoldable pub plan_text : Game → Table → List GoodId → List Column → List Figures → Figures → Plan → List ℕ
plan_text g table goods columns rows total plan =
    head_text ++ (records_text (map (row_of g) (zip table.rows (zip plan.rates rows)))
    ++ (records_text (map (want_of g) table.wants)
    ++ (flat_map records_text (map (streams_of g) (zip columns plan.rates))
    ++ (records_text (map (price_of g) (zip goods plan.prices)) ++ record_text (total_record table.name total plan.cost)))))
