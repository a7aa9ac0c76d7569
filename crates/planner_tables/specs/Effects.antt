-- Lists of tables: what each change makes of them, or its first refusal.
use Rattle.std.specs.Prelude.{◌≡◌, ℕ, ◌<◌, ◌≤◌, Bool, true, false, nat_lt, List, [], ◌∷◌, ◌++◌, length, remove, slice_index_or, slice_set, Option, Some, None, Result, Ok, Err, All, position, if◌then◌else◌}
use Rattle.std.specs.List.{list_any}
use Rattle.std.specs.Str.{bytes_eq}
use Rattle.fractions.specs.Fraction.{Fraction}
use Rattle.plan_base.specs.declared.ids.GoodId.{GoodId}
use Rattle.game_types.specs.declared.games.Game.{Game}
use Rattle.game_types.specs.Goods.{good_count}
use Rattle.game_types.specs.Steps.{◌▸◌}
use Rattle.plan_lines.specs.declared.change.Change.{Change}
use Rattle.plan_lines.specs.declared.change.Change.TheVariants as change
use Rattle.production_table.specs.declared.faults.TableFault.{TableFault}
use Rattle.production_table.specs.declared.tables.Table.{Table}
use Rattle.production_table.specs.Changes.{empty_table, with_balance, with_import, with_price, with_row, with_surplus, with_want, without_row}
use Rattle.production_table.specs.Tables.{IsSoundTable}
use Rattle.table_rows.specs.Setups.{IsFitting}
use Rattle.table_rows.specs.declared.refusals.TableRefusal.{TableRefusal}
use Rattle.table_rows.specs.declared.refusals.TableRefusal.TheVariants.{NoName, NoPrice, NameUsed, Full}
use Rattle.table_rows.specs.Names.{good_named, setup_named}
use Rattle.planner_tables.specs.Causes.{cause}

-- ---- tables by their names
abbrev pub is_name : List ℕ → Table → Bool
is_name name t = bytes_eq name t.name

abbrev pub named : {A : Type 0} → List ℕ → Option A → Result A TableRefusal
named name None = Err (NoName name)
named name (Some thing) = Ok thing

-- the place of the first table of a name
unfoldable pub table_named : List Table → List ℕ → Result ℕ TableRefusal
table_named ts name = named name (position (is_name name) ts)

-- the table at a place; where none is, which comes at no place that a name gives, an empty one
unfoldable pub table_at : List Table → ℕ → Table
table_at ts place = slice_index_or ts place (empty_table [])

-- ---- what a change makes of them
-- a new table comes in at the end: first its name, then the room
unfoldable pub with_table : List ℕ → List Table → Result (List Table) TableRefusal
with_table name ts =
    if list_any (is_name name) ts then Err NameUsed
    else if nat_lt (length ts) 64 then Ok (ts ++ empty_table name ∷ [])
    else Err Full

-- a table after a change, beside which it answers what undoes it; or its refusal, with the name that it doesn't know
abbrev pub table_after : {A : Type 0} → TableRefusal → Result (A × Table) TableFault → Result Table TableRefusal
table_after unknown (Ok both) = Ok both.1
table_after unknown (Err fault) = Err (cause unknown fault)

-- another table at a place
abbrev pub placed : List Table → ℕ → Result Table TableRefusal → Result (List Table) TableRefusal
placed ts place new = new ▸ λ t. Ok (slice_set ts place t)

-- The tables after a change, or its first refusal. Names come before all else, word by word: the table's, those of a row's
-- set-up or the good's; then what the table itself refuses, in its order. A change of the game and its marks leaves them.
unfoldable pub tables_effect : Game → List Table → Change → Result (List Table) TableRefusal
tables_effect g ts (change.Table name) = with_table name ts
tables_effect g ts (change.Untable name) = table_named ts name ▸ λ place. Ok (remove ts place)
tables_effect g ts (change.Row table label does machine parts) =
    table_named ts table ▸ λ place.
    setup_named g does machine parts ▸ λ setup.
    placed ts place (table_after (NoName label) (with_row g label setup (table_at ts place)))
tables_effect g ts (change.Unrow table label) =
    table_named ts table ▸ λ place.
    placed ts place (table_after (NoName label) (without_row label (table_at ts place)))
tables_effect g ts (change.Price table label price) =
    table_named ts table ▸ λ place.
    placed ts place (table_after (NoName label) (with_price label price (table_at ts place)))
tables_effect g ts (change.Want table object amount) =
    table_named ts table ▸ λ place.
    good_named g object ▸ λ good.
    placed ts place (table_after (NoPrice object) (with_want good amount (table_at ts place)))
tables_effect g ts (change.Import table object price) =
    table_named ts table ▸ λ place.
    good_named g object ▸ λ good.
    placed ts place (table_after (NoPrice object) (with_import good price (table_at ts place)))
tables_effect g ts (change.Surplus table object price) =
    table_named ts table ▸ λ place.
    good_named g object ▸ λ good.
    placed ts place (table_after (NoPrice object) (with_surplus good price (table_at ts place)))
tables_effect g ts (change.Power table on) =
    table_named ts table ▸ λ place.
    placed ts place (Ok (with_balance on (table_at ts place)).1)
tables_effect g ts other = Ok ts

-- whether a change is one of tables
abbrev pub is_of_tables : Change → Bool
is_of_tables (change.Table name) = true
is_of_tables (change.Untable name) = true
is_of_tables (change.Row table label does machine parts) = true
is_of_tables (change.Unrow table label) = true
is_of_tables (change.Price table label price) = true
is_of_tables (change.Want table object amount) = true
is_of_tables (change.Import table object price) = true
is_of_tables (change.Surplus table object price) = true
is_of_tables (change.Power table on) = true
is_of_tables other = false

-- ---- sound lists of tables
-- no name stands twice
abbrev pub HaveOwnNames : List Table → Type 0
HaveOwnNames [] = Unit {0}
HaveOwnNames (t ∷ ts) = (list_any (is_name t.name) ts ≡ false) × HaveOwnNames ts

-- all goods of a table's lists are goods of the game
abbrev pub AreGoods : Game → List (GoodId × Fraction) → Type 0
AreGoods g pairs = All (λ pair. pair.0.0 < good_count g) pairs

pub record IsOfGame (g : Game) (t : Table) : Type 0 where
  pub wants : AreGoods g t.wants
  pub imports : AreGoods g t.imports
  pub surpluses : AreGoods g t.surpluses

-- a table is sound, its goods are goods of the game, and each set-up can stand in a table of the game
pub record IsSoundOn (g : Game) (t : Table) : Type 0 where
  pub table : IsSoundTable t
  pub goods : IsOfGame g t
  pub rows : All (λ row. IsFitting g row.setup) t.rows

pub record AreSoundTables (g : Game) (ts : List Table) : Type 0 where
  pub names : HaveOwnNames ts
  pub few : length ts ≤ 64
  pub each : All (IsSoundOn g) ts
