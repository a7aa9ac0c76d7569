-- What each change makes of a table and what it answers, which is what undoes it; and when it is refused, in that order. After
-- a refusal the table is as it was.
use Rattle.std.specs.Prelude.{◌≡◌, ℕ, ◌<◌, ◌≤◌, Bool, false, List, [], ◌∷◌, ◌++◌, length, Option, Some, None, Result, Ok, Err, slice_get, slice_set}
use Rattle.std.specs.List.{insert, list_any, position_or_len, remove}
use Rattle.fractions.specs.Fraction.{Fraction, zero_fraction, ◌≤ʳ◌}
use Rattle.plan_base.specs.declared.denied.Denied.{Denied}
use Rattle.plan_base.specs.declared.ids.GoodId.{GoodId}
use Rattle.plan_base.specs.Outcomes.{IsRefused}
use Rattle.game_types.specs.declared.setups.Setup.{Setup}
use Rattle.game_types.specs.declared.games.Game.{Game}
use Rattle.game_types.specs.Steps.{◌▸◌}
use Rattle.production_table.specs.declared.faults.TableFault.{TableFault}
use Rattle.production_table.specs.declared.faults.TableFault.TheVariants.{LabelUsed, Full, Unknown, Negative, Setup as OfSetup}
use Rattle.production_table.specs.declared.tables.Table.{Table}
use Rattle.production_table.specs.declared.tables.TableRow.{TableRow}
use Rattle.production_table.specs.Numbers.{guard, is_full, repriced, rewanted}
use Rattle.fractions.specs.Signs.{is_negative}
use Rattle.production_table.specs.Tables.{is_label}
use Rattle.table_rows.specs.declared.faults.SetupFault.{SetupFault}
use Rattle.table_rows.specs.Setups.{checked_setup}

-- a change of a table: what it answers and what it leaves, or its refusal, which leaves the table
abbrev pub Changes : {A : Type 0} → Result (A × Table) TableFault → Result A TableFault → Table → Table → Type 0
Changes meant (Ok answer) old new = meant ≡ Ok (answer, new)
Changes meant (Err fault) old new = (meant ≡ Err fault) × (new ≡ old)

-- the same of a change that takes memory, which may also not be had
abbrev pub ChangesInMemory : {A : Type 0} → Result (A × Table) TableFault → Result A (Denied TableFault) → Table → Table → Type 0
ChangesInMemory meant (Ok answer) old new = meant ≡ Ok (answer, new)
ChangesInMemory meant (Err fault) old new = IsRefused meant fault × (new ≡ old)

-- a table with no rows and no goods, which balances no power
abbrev pub empty_table : List ℕ → Table
empty_table name = record { name = name; rows = []; wants = []; imports = []; surpluses = []; power = false }

-- ---- rows
abbrev pub is_used : Table → List ℕ → Bool
is_used t label = list_any (is_label label) t.rows

-- a row as it comes in
abbrev pub new_row : List ℕ → Setup → TableRow
new_row label setup = record { label = label; setup = setup; price = zero_fraction }

-- the refusal of a set-up, as one of a table
abbrev pub in_table : Result (Unit {0}) SetupFault → Result (Unit {0}) TableFault
in_table (Ok fine) = Ok tt
in_table (Err fault) = Err (OfSetup fault)

-- whether a row can come in: first its label, then the room, then the set-up
abbrev pub row_fits : Game → List ℕ → Setup → Table → Result (Unit {0}) TableFault
row_fits g label setup t =
    guard (is_used t label) LabelUsed ▸ λ _.
    guard (is_full t.rows) Full ▸ λ _.
    in_table (checked_setup g setup)

-- a row comes in at the end, with price 0. Dropping it undoes that
unfoldable pub with_row : Game → List ℕ → Setup → Table → Result (Unit {0} × Table) TableFault
with_row g label setup t =
    row_fits g label setup t ▸ λ _.
    Ok (tt, record t { rows = t.rows ++ new_row label setup ∷ [] })

-- the place of the first row with a label; where there is none, how many rows there are
abbrev pub place_of : List ℕ → List TableRow → ℕ
place_of label rows = position_or_len (is_label label) rows

abbrev pub dropped : Table → ℕ → Option TableRow → Result ((ℕ × TableRow) × Table) TableFault
dropped t place None = Err Unknown
dropped t place (Some row) = Ok ((place, row), record t { rows = remove t.rows place })

-- the row with a label is dropped. It goes back to its place, which undoes that
unfoldable pub without_row : List ℕ → Table → Result ((ℕ × TableRow) × Table) TableFault
without_row label t = dropped t (place_of label t.rows) (slice_get t.rows (place_of label t.rows))

-- a table has room for a row at a place
pub record HasRoom (t : Table) (place : ℕ) (row : TableRow) : Type 0 where
  pub label : is_used t row.label ≡ false
  pub room : length t.rows < 512
  pub there : place ≤ length t.rows
  pub price : zero_fraction ≤ʳ row.price

unfoldable pub with_row_at : ℕ → TableRow → Table → Table
with_row_at place row t = record t { rows = insert t.rows place row }

-- ---- prices of rows
abbrev pub priced : Table → Fraction → ℕ → Option TableRow → Result (Fraction × Table) TableFault
priced t price place None = Err Unknown
priced t price place (Some row) =
    guard (is_negative price) Negative ▸ λ _.
    Ok (row.price, record t { rows = slice_set t.rows place (record row { price = price }) })

-- the price of the row with a label: first the row, then the sign. The old price undoes it
unfoldable pub with_price : List ℕ → Fraction → Table → Result (Fraction × Table) TableFault
with_price label price t = priced t price (place_of label t.rows) (slice_get t.rows (place_of label t.rows))

-- ---- wants, and prices of what comes in and goes out
unfoldable pub with_want : GoodId → Fraction → Table → Result (Option Fraction × Table) TableFault
with_want good rate t = rewanted good rate t.wants ▸ λ both. Ok (both.0, record t { wants = both.1 })

unfoldable pub with_import : GoodId → Option Fraction → Table → Result (Option Fraction × Table) TableFault
with_import good price t = repriced good price t.imports ▸ λ both. Ok (both.0, record t { imports = both.1 })

unfoldable pub with_surplus : GoodId → Option Fraction → Table → Result (Option Fraction × Table) TableFault
with_surplus good price t = repriced good price t.surpluses ▸ λ both. Ok (both.0, record t { surpluses = both.1 })

-- ---- power: whether the table balances its electric power; the old answer undoes it, and nothing refuses it
abbrev pub with_balance : Bool → Table → Bool × Table
with_balance on t = (t.power, record t { power = on })
