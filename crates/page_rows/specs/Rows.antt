-- The rows of a plan: what each does, by what, how often, with how many machines, and what these take.
use Rattle.std.specs.Prelude.{ℕ, zero, suc, Bool, true, false, not, ◌&&◌, ◌==◌, List, [], ◌++◌, Option, Some, None, if◌then◌else◌, codes, decimal, length, slice_get, slice_index_or}
use Rattle.fractions.specs.Fraction.{Fraction, zero_fraction}
use Rattle.fractions.specs.Signs.{is_zero}
use Rattle.game_types.specs.declared.games.Game.{Game}
use Rattle.game_types.specs.declared.setups.Activity.{Activity}
use Rattle.game_types.specs.declared.setups.Activity.TheVariants.{Craft, Mine, Pump, Generate, Boil, Research}
use Rattle.page_parts.specs.Escape.{escaped}
use Rattle.plan_lines.specs.declared.reply.Figures.{Figures}
use Rattle.production_table.specs.declared.tables.TableRow.{TableRow}
use Rattle.page_rows.specs.Cells.{amount_cell, figure_cell, power_cell}
use Rattle.page_rows.specs.Setups.{setup_text}
use Rattle.page_rows.specs.Things.{activity_thing, thing_text}

-- where a row stands: the line of its table, and its number in it
abbrev pub place_text : ℕ → ℕ → List ℕ
place_text line number = decimal line ++ (codes "-" ++ decimal number)

-- what makes electric power is done in watts, and nothing else
abbrev pub is_electric : Activity → Bool
is_electric (Craft recipe) = false
is_electric (Mine source) = false
is_electric (Pump good) = false
is_electric Generate = true
is_electric (Boil good) = false
is_electric (Research tech) = false

-- a row that stands still is marked, and has no card in the chart
abbrev pub idle_word : Fraction → List ℕ
idle_word rate = if is_zero rate then codes " class=\"idle\"" else []

unfoldable pub label_text : List ℕ → List ℕ → Fraction → List ℕ
label_text place label rate =
    if is_zero rate then (codes "<th data-l=\"row\" data-v=\"" ++ (escaped label ++ (codes "\">" ++ (escaped label ++ codes "</th>"))))
    else (codes "<th data-l=\"row\" data-v=\"" ++ (escaped label ++ (codes "\"><a href=\"#c" ++ (place ++ (codes "\">" ++ (escaped label ++ codes "</a></th>"))))))

abbrev pub activity_text : Game → Activity → List ℕ
activity_text g activity = thing_text g (activity_thing g activity).kind (activity_thing g activity).index

-- what a row does, by what, with a note, how often
unfoldable pub work_text : Game → TableRow → Fraction → List ℕ → List ℕ
work_text g row rate note =
    codes "<td data-l=\"does\">" ++ (activity_text g row.setup.activity ++ (codes "</td><td data-l=\"by\">" ++ (setup_text g row.setup
    ++ (note ++ (codes "</td>" ++ amount_cell (codes "crafts") (is_electric row.setup.activity) rate)))))

abbrev pub counts_text : Figures → List ℕ
counts_text f = figure_cell (codes "machines") f.machines ++ figure_cell (codes "to build") f.count

abbrev pub powers_text : Figures → List ℕ
powers_text f = power_cell (codes "power") f.power ++ power_cell (codes "drain") f.drain

abbrev pub around_text : Figures → List ℕ
around_text f = power_cell (codes "beacons") f.beacons ++ figure_cell (codes "pollution/min") f.pollution

abbrev pub uses_text : Figures → List ℕ
uses_text f = powers_text f ++ around_text f

unfoldable pub row_text : Game → List ℕ → TableRow → Fraction → Figures → List ℕ → List ℕ
row_text g place row rate f note =
    codes "<tr data-f" ++ (idle_word rate ++ (codes " id=\"r" ++ (place ++ (codes "\">" ++ (label_text place row.label rate ++ (work_text g row rate note
    ++ (counts_text f ++ (uses_text f ++ codes "</tr>\n"))))))))

-- the texts of the numbers from 0 on below one, behind one another
unfoldable pub texts_below : ℕ → (ℕ → List ℕ) → List ℕ
texts_below zero text = []
texts_below (suc n) text = texts_below n text ++ text n

-- ---- a row at work without machines of its own, as a launch: it is done in those of the other rows of its machine
abbrev pub has_none : Option Fraction → Bool
has_none None = false
has_none (Some machines) = is_zero machines

unfoldable pub place_link : ℕ → ℕ → TableRow → List ℕ
place_link line number row = codes " <a href=\"#r" ++ (place_text line number ++ (codes "\">" ++ (escaped row.label ++ codes "</a>")))

abbrev pub link_by : ℕ → ℕ → TableRow → TableRow → Figures → List ℕ
link_by line number row other f = if other.setup.machine.0 == row.setup.machine.0 && not (has_none f.machines) then place_link line number other else []

abbrev pub link_with : ℕ → ℕ → TableRow → TableRow → Option Figures → List ℕ
link_with line number row other None = []
link_with line number row other (Some f) = link_by line number row other f

abbrev pub link_in : ℕ → ℕ → TableRow → Option TableRow → Option Figures → List ℕ
link_in line number row None figures = []
link_in line number row (Some other) figures = link_with line number row other figures

unfoldable pub link_at : ℕ → List TableRow → List Figures → TableRow → ℕ → List ℕ
link_at line rows figures row number = link_in line number row (slice_get rows number) (slice_get figures number)

abbrev pub links_text : ℕ → List TableRow → List Figures → TableRow → List ℕ
links_text line rows figures row = texts_below (length rows) (link_at line rows figures row)

unfoldable pub note_text : ℕ → List TableRow → List Figures → TableRow → Fraction → Figures → List ℕ
note_text line rows figures row rate f =
    if has_none f.machines && not (is_zero rate) then (codes "<small>in the machines of" ++ (links_text line rows figures row ++ codes "</small>")) else []

-- ---- all rows
-- a row has a line where it has figures
abbrev pub row_with : Game → ℕ → List TableRow → List Figures → List ℕ → TableRow → Fraction → Option Figures → List ℕ
row_with g line rows figures place row rate None = []
row_with g line rows figures place row rate (Some f) = row_text g place row rate f (note_text line rows figures row rate f)

abbrev pub row_in : Game → ℕ → List TableRow → List Figures → List ℕ → Option TableRow → Fraction → Option Figures → List ℕ
row_in g line rows figures place None rate f = []
row_in g line rows figures place (Some row) rate f = row_with g line rows figures place row rate f

-- the row of a number, at its rate and with its figures
unfoldable pub row_at : Game → ℕ → List TableRow → List Fraction → List Figures → ℕ → List ℕ
row_at g line rows rates figures number =
    row_in g line rows figures (place_text line number) (slice_get rows number) (slice_index_or rates number zero_fraction) (slice_get figures number)

-- all rows in their order
abbrev pub rows_text : Game → ℕ → List TableRow → List Fraction → List Figures → List ℕ
rows_text g line rows rates figures = texts_below (length rows) (row_at g line rows rates figures)

-- what all rows take together
abbrev pub total_text : Figures → List ℕ
total_text total = codes "<tr><th data-l=\"row\">total</th><td class=\"e\" colspan=\"5\"></td>" ++ (uses_text total ++ codes "</tr>\n")
