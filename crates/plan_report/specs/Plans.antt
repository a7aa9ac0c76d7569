-- The lines of what the solver says of a table.
use Rattle.std.specs.Prelude.{ℕ, List, [], ◌∷◌, ◌++◌, Option, None, Some, codes, decimal, map, slice_index_or}
use Rattle.std.specs.List.{flat_map, zip}
use Rattle.fractions.specs.Print.{printed}
use Rattle.fractions.specs.Fraction.{Fraction}
use Rattle.plan_base.specs.declared.ids.GoodId.{GoodId}
use Rattle.game_types.specs.declared.games.Game.{Game}
use Rattle.linear_table.specs.declared.Column.{Column}
use Rattle.linear_table.specs.declared.Column.TheVariants.{Line as TableRow, Import, Surplus, Unit as Single}
use Rattle.linear_table.specs.declared.Exchange.{Exchange}
use Rattle.linear_table.specs.declared.Place.{Place}
use Rattle.linear_table.specs.declared.Plan.{Plan}
use Rattle.linear_table.specs.declared.Place.TheVariants.{Entry, Value, Reduced, Total}
use Rattle.linear_table.specs.declared.SolveAnswer.{SolveAnswer}
use Rattle.linear_table.specs.declared.SolveAnswer.TheVariants.{Planned, Infeasible, TooWide, OutOfBudget}
use Rattle.plan_report.specs.Layout.{Line}
use Rattle.plan_report.specs.Nodes.{good_word}
use Rattle.plan_report.specs.Words.{printed_word}
use Rattle.plan_lines.specs.declared.reply.Figures.{Figures}

-- ---- a plan
-- a figure that is past the limits of fractions is wide
abbrev pub figure_word : Option Fraction → List ℕ
figure_word None = codes "wide"
figure_word (Some figure) = printed figure

abbrev pub use_words : Figures → List (List ℕ)
use_words f = codes "power" ∷ figure_word f.power ∷ codes "drain" ∷ figure_word f.drain ∷ codes "beacons" ∷ figure_word f.beacons ∷ codes "pollution" ∷ figure_word f.pollution ∷ []

abbrev pub row_line : List ℕ × (Fraction × Figures) → Line
row_line row =
    codes "row" ∷ printed_word row.0 ∷ codes "rate" ∷ printed row.1.0 ∷ codes "machines" ∷ figure_word row.1.1.machines ∷ codes "count" ∷ figure_word row.1.1.count ∷ use_words row.1.1

-- a line for each import and surplus, at its rate; the rows have theirs
abbrev pub stream_lines : Game → Column × Fraction → List Line
stream_lines g (TableRow row, rate) = []
stream_lines g (Import good, rate) = (codes "import" ∷ good_word g good ∷ printed rate ∷ []) ∷ []
stream_lines g (Surplus good, rate) = (codes "surplus" ∷ good_word g good ∷ printed rate ∷ []) ∷ []
stream_lines g (Single good, rate) = []

abbrev pub price_line : Game → GoodId × Fraction → Line
price_line g good = codes "price" ∷ good_word g good.0 ∷ printed good.1 ∷ []

abbrev pub price_lines : Game → List GoodId → List Fraction → List Line
price_lines g goods prices = map (price_line g) (zip goods prices)

abbrev pub total_line : Figures → Line
total_line total = codes "total" ∷ use_words total

-- ---- a solve that is refused
-- a column is two words
abbrev pub column_kind : Column → List ℕ
column_kind (TableRow row) = codes "row"
column_kind (Import good) = codes "import"
column_kind (Surplus good) = codes "surplus"
column_kind (Single good) = codes "unit"

abbrev pub column_name : Game → List (List ℕ) → Column → List ℕ
column_name g labels (TableRow row) = printed_word (slice_index_or labels row [])
column_name g labels (Import good) = good_word g good
column_name g labels (Surplus good) = good_word g good
column_name g labels (Single good) = good_word g good

abbrev pub exchange_line : Game → List (List ℕ) → Exchange → Line
exchange_line g labels e = codes "enter" ∷ column_kind e.enter ∷ column_name g labels e.enter ∷ codes "leave" ∷ column_kind e.leave ∷ column_name g labels e.leave ∷ []

-- the number that is past the limits
abbrev pub place_line : Game → List (List ℕ) → Place → Line
place_line g labels (Entry column row) = codes "entry" ∷ column_kind column ∷ column_name g labels column ∷ decimal row ∷ []
place_line g labels (Value row) = codes "value" ∷ decimal row ∷ []
place_line g labels (Reduced column) = codes "reduced" ∷ column_kind column ∷ column_name g labels column ∷ []
place_line g labels Total = codes "total" ∷ []

-- ---- every answer
-- the rows, the imports and surpluses, the prices, the totals
abbrev pub plan_further_lines : Game → List (List ℕ) → List GoodId → List Column → List Figures → Figures → List Fraction → List Fraction → List Line
plan_further_lines g labels goods columns rows total rates prices =
    map row_line (zip labels (zip rates rows)) ++ (flat_map (stream_lines g) (zip columns rates) ++ (price_lines g goods prices ++ total_line total ∷ []))

abbrev pub plan_lines : Game → List ℕ → List (List ℕ) → List GoodId → List Column → List Figures → Figures → Plan → List Line
plan_lines g table labels goods columns rows total plan =
    (codes "plan" ∷ printed_word table ∷ codes "cost" ∷ printed plan.cost ∷ []) ∷ plan_further_lines g labels goods columns rows total plan.rates plan.prices

abbrev pub infeasible_lines : Game → List ℕ → List GoodId → List Fraction → List Line
infeasible_lines g table goods prices = (codes "infeasible" ∷ printed_word table ∷ []) ∷ price_lines g goods prices

-- the exchanges, the next one, and the number that it forms past the limits
abbrev pub too_wide_lines : Game → List ℕ → List (List ℕ) → List Exchange → Exchange → Place → List Line
too_wide_lines g table labels trail next place =
    (codes "refused" ∷ codes "V1" ∷ printed_word table ∷ []) ∷ (map (exchange_line g labels) trail ++ ((codes "next" ∷ exchange_line g labels next) ∷ place_line g labels place ∷ []))

abbrev pub out_of_budget_lines : Game → List ℕ → List (List ℕ) → List Exchange → List Line
out_of_budget_lines g table labels trail = (codes "refused" ∷ codes "V2" ∷ printed_word table ∷ []) ∷ map (exchange_line g labels) trail

abbrev pub solved_lines : Game → List ℕ → List (List ℕ) → List GoodId → List Column → List Figures → Figures → SolveAnswer → List Line
solved_lines g table labels goods columns rows total (Planned plan) = plan_lines g table labels goods columns rows total plan
solved_lines g table labels goods columns rows total (Infeasible prices) = infeasible_lines g table goods prices
solved_lines g table labels goods columns rows total (TooWide trail next place) = too_wide_lines g table labels trail next place
solved_lines g table labels goods columns rows total (OutOfBudget trail) = out_of_budget_lines g table labels trail
