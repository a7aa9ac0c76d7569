-- Ways to get goods, prices of goods under which no way gains, and tables whose rows are ways.
--
-- Ways are any set-ups, each with a cost of one craft a second. That prices under which none of them gains bound the cost of
-- every plan is weak duality (Schrijver, Theory of Linear and Integer Programming, chapter 7).
use Rattle.std.specs.Prelude.{◌≡◌, All, Bool, IsTrue, List, [], ◌∷◌, Ok}
use Rattle.fractions.specs.Fraction.{Fraction, zero_fraction, ◌+ʳ◌, ◌*ʳ◌, ◌≤ʳ◌}
use Rattle.plan_base.specs.declared.ids.GoodId.{GoodId}
use Rattle.game_types.specs.declared.games.Game.{Game}
use Rattle.game_types.specs.declared.setups.Setup.{Setup}
use Rattle.table_rows.specs.Columns.{column_of}
use Rattle.production_table.specs.declared.tables.Table.{Table}
use Rattle.production_table.specs.declared.tables.TableRow.{TableRow}

-- a price for each good, which may be below 0
abbrev pub Prices : Type 0
Prices = GoodId → Fraction

-- what amounts of goods are worth: each times the price of its good, summed
abbrev pub worth : Prices → List (GoodId × Fraction) → Fraction
worth prices [] = zero_fraction
worth prices (pair ∷ pairs) = prices pair.0 *ʳ pair.1 +ʳ worth prices pairs

-- what one craft a second of a set-up gives is worth no more than what it takes and what it costs
abbrev pub GainsNothing : Game → Bool → Prices → Fraction → Setup → Type 0
GainsNothing g power prices cost setup = (column : List (GoodId × Fraction)) → column_of g power setup ≡ Ok column → worth prices column ≤ʳ cost

-- what comes in costs no less than its good is worth
abbrev pub ImportGainsNothing : Prices → GoodId × Fraction → Type 0
ImportGainsNothing prices pair = prices pair.0 ≤ʳ pair.1

-- what goes out costs no less than it saves: its price and the price of its good together aren't below 0
abbrev pub SurplusGainsNothing : Prices → GoodId × Fraction → Type 0
SurplusGainsNothing prices pair = zero_fraction ≤ʳ (prices pair.0 +ʳ pair.1)

-- ---- tables where nothing gains, whatever their rows are
abbrev pub RowGainsNothing : Game → Bool → Prices → TableRow → Type 0
RowGainsNothing g power prices row = GainsNothing g power prices row.price row.setup

pub record NothingGains (g : Game) (prices : Prices) (t : Table) : Type 0 where
  pub rows : All (RowGainsNothing g t.power prices) t.rows
  pub imports : All (ImportGainsNothing prices) t.imports
  pub surpluses : All (SurplusGainsNothing prices) t.surpluses

-- ---- ways, and tables of them
-- the ways that a test tells
abbrev pub WaysBy : (Setup → Bool) → Setup → Type 0
WaysBy is_way setup = IsTrue (is_way setup)

-- no way gains under these prices
abbrev pub NoWayGains : Game → Bool → (Setup → Type 0) → (Setup → Fraction) → Prices → Type 0
NoWayGains g power ways costs prices = (setup : Setup) → ways setup → GainsNothing g power prices (costs setup) setup

-- a row whose set-up is a way, at no less than its cost
abbrev pub IsRowOfWay : (Setup → Type 0) → (Setup → Fraction) → TableRow → Type 0
IsRowOfWay ways costs row = ways row.setup × (costs row.setup ≤ʳ row.price)

-- each row is of a way, and neither what comes in nor what goes out gains
pub record IsTableOfWays (ways : Setup → Type 0) (costs : Setup → Fraction) (prices : Prices) (t : Table) : Type 0 where
  pub rows : All (IsRowOfWay ways costs) t.rows
  pub imports : All (ImportGainsNothing prices) t.imports
  pub surpluses : All (SurplusGainsNothing prices) t.surpluses
