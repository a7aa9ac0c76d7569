-- The linear form of a table: the goods that it mentions in order, a column for each row, import and surplus, and what is
-- wanted of each good.
use Rattle.std.specs.Prelude.{ℕ, ◌+◌, ◌==◌, Bool, false, nat_le, nat_lt, List, [], ◌∷◌, ◌++◌, map, length, Option, Some, None, position, Result, Ok, Err, ◌≡◌, if◌then◌else◌}
use Rattle.fractions.specs.Fraction.{Fraction, zero_fraction, one_fraction, negated}
use Rattle.plan_base.specs.declared.ids.GoodId.{GoodId}
use Rattle.game_types.specs.declared.effects.Effects.{Effects}
use Rattle.game_types.specs.declared.effects.Rates.{Rates}
use Rattle.game_types.specs.declared.effects.Wide.{Wide}
use Rattle.game_types.specs.declared.games.Game.{Game}
use Rattle.game_types.specs.Steps.{◌▸◌}
use Rattle.linear_table.specs.declared.Column.TheVariants.{Line, Import, Surplus}
use Rattle.linear_table.specs.declared.Linear.{Linear}
use Rattle.linear_table.specs.declared.LinearColumn.{LinearColumn}
use Rattle.production_table.specs.declared.faults.TableFault.{TableFault}
use Rattle.production_table.specs.declared.faults.TableFault.TheVariants.{Wide as WideRow, Full}
use Rattle.production_table.specs.declared.tables.Table.{Table}
use Rattle.production_table.specs.declared.tables.TableRow.{TableRow}
use Rattle.production_table.specs.Numbers.{number_of}
use Rattle.fractions.specs.Signs.{is_zero}
use Rattle.table_rows.specs.Columns.{column_of, figures_of}

-- ---- the columns of all rows, or the first row that has a wide step, with the first such step
abbrev pub of_row : TableRow → Result (List (GoodId × Fraction)) Wide → Result (List (GoodId × Fraction)) TableFault
of_row row (Ok column) = Ok column
of_row row (Err wide) = Err (WideRow row.label wide.step)

unfoldable pub columns_of : Game → Bool → List TableRow → Result (List (List (GoodId × Fraction))) TableFault
columns_of g power [] = Ok []
columns_of g power (row ∷ rows) =
    of_row row (column_of g power row.setup) ▸ λ column.
    columns_of g power rows ▸ λ columns.
    Ok (column ∷ columns)

-- ---- the figures of all rows, in order: one for each row, those of its set-up, and of none is a step past the limits
abbrev pub figures_of_row : Game → TableRow → Result (Effects × Rates × Fraction) Wide
figures_of_row g row = figures_of g row.setup

abbrev pub HasFigures : Game → List TableRow → List (Effects × Rates × Fraction) → Type 0
HasFigures g rows figures = map (figures_of_row g) rows ≡ map Ok figures

-- ---- the goods of a table: those that a column, a want, an import or a surplus mentions, in order and each once
-- goods that rise, with one good more at its place, where it isn't there
unfoldable pub with_good : GoodId → List GoodId → List GoodId
with_good good [] = good ∷ []
with_good good (g ∷ goods) =
    if nat_lt good.0 g.0 then good ∷ g ∷ goods
    else if g.0 == good.0 then g ∷ goods
    else g ∷ with_good good goods

abbrev pub is_not_below : GoodId → GoodId → Bool
is_not_below good other = nat_le good.0 other.0

unfoldable pub with_goods : List GoodId → List (GoodId × Fraction) → List GoodId
with_goods goods [] = goods
with_goods goods (p ∷ ps) = with_goods (with_good p.0 goods) ps

unfoldable pub with_columns : List GoodId → List (List (GoodId × Fraction)) → List GoodId
with_columns goods [] = goods
with_columns goods (column ∷ columns) = with_columns (with_goods goods column) columns

abbrev pub table_goods : Table → List (List (GoodId × Fraction)) → List GoodId
table_goods t columns = with_goods (with_goods (with_goods (with_columns [] columns) t.wants) t.imports) t.surpluses

-- the place of a good
abbrev pub or_first : Option ℕ → ℕ
or_first None = 0
or_first (Some place) = place

abbrev pub is_numbered : ℕ → GoodId → Bool
is_numbered good other = other.0 == good

abbrev pub is_good_at : ℕ → Option GoodId → Bool
is_good_at good None = false
is_good_at good (Some other) = other.0 == good

unfoldable pub place_in : List GoodId → ℕ → ℕ
place_in goods good = or_first (position (is_numbered good) goods)

-- ---- the columns of the linear form
-- a part for each good whose sum isn't 0, at the good's place
unfoldable pub parts_at : List GoodId → List (GoodId × Fraction) → List (ℕ × Fraction)
parts_at goods [] = []
parts_at goods (p ∷ ps) = if is_zero p.1 then parts_at goods ps else (place_in goods p.0.0, p.1) ∷ parts_at goods ps

abbrev pub row_column : List GoodId → ℕ → TableRow → List (GoodId × Fraction) → LinearColumn
row_column goods number row column = record { column = Line number; price = row.price; parts = parts_at goods column }

-- a column for each row, numbered from the first on, with its price
unfoldable pub row_columns : List GoodId → ℕ → List TableRow → List (List (GoodId × Fraction)) → List LinearColumn
row_columns goods first [] columns = []
row_columns goods first (row ∷ rows) [] = []
row_columns goods first (row ∷ rows) (column ∷ columns) =
    row_column goods first row column ∷ row_columns goods (first + 1) rows columns

-- one of the good comes in, or goes out
abbrev pub import_column : List GoodId → GoodId × Fraction → LinearColumn
import_column goods pair = record { column = Import pair.0; price = pair.1; parts = (place_in goods pair.0.0, one_fraction) ∷ [] }

abbrev pub surplus_column : List GoodId → GoodId × Fraction → LinearColumn
surplus_column goods pair = record { column = Surplus pair.0; price = pair.1; parts = (place_in goods pair.0.0, negated one_fraction) ∷ [] }

-- ---- what is wanted of a good, 0 where nothing is
abbrev pub or_none : Option Fraction → Fraction
or_none (Some rate) = rate
or_none None = zero_fraction

unfoldable pub want_of : List (GoodId × Fraction) → GoodId → Fraction
want_of wants good = or_none (number_of wants good)

abbrev pub linear_with : Table → List GoodId → List (List (GoodId × Fraction)) → Linear
linear_with t goods columns = record {
  goods = goods;
  columns = row_columns goods 0 t.rows columns ++ (map (import_column goods) t.imports ++ map (surplus_column goods) t.surpluses);
  wants = map (want_of t.wants) goods;
}

abbrev pub few_enough : Table → List (List (GoodId × Fraction)) → List GoodId → Result Linear TableFault
few_enough t columns goods = if nat_lt 512 (length goods) then Err Full else Ok (linear_with t goods columns)

-- first the columns, then the number of goods
unfoldable pub linear_of : Game → Table → Result Linear TableFault
linear_of g t = columns_of g t.power t.rows ▸ λ columns. few_enough t columns (table_goods t columns)
