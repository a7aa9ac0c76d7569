-- What undoes a change of tables: a part of them that is put in the place of another.
use Rattle.std.specs.Prelude.{ℕ, ◌+◌, ◌-◌, ◌==◌, ◌&&◌, Bool, nat_lt, nat_le, List, length, insert, remove, if◌then◌else◌, vec_capacity, vec_len, Vec}
use Rattle.plan_base.specs.Places.{with_at}
use Rattle.std.specs.Global.{Global}
use Rattle.fractions.specs.Fraction.{Fraction}
use Rattle.plan_base.specs.declared.ids.GoodId.{GoodId}
use Rattle.production_table.specs.declared.tables.Table.{Table}
use Rattle.production_table.specs.declared.tables.TableRow.{TableRow}
use Rattle.planner_tables.specs.declared.splices.Splice.{Splice}
use Rattle.planner_tables.specs.declared.splices.Splice.TheVariants.{Remove, Insert}
use Rattle.planner_tables.specs.declared.undos.Numbers.{Numbers}
use Rattle.planner_tables.specs.declared.undos.Numbers.TheVariants.{Wants, Imports, Surpluses}
use Rattle.planner_tables.specs.declared.undos.TablePart.{TablePart}
use Rattle.planner_tables.specs.declared.undos.TablePart.TheVariants as part
use Rattle.planner_tables.specs.declared.undos.TableUndo.{TableUndo}
use Rattle.planner_tables.specs.declared.undos.TableUndo.TheVariants as undo

-- ---- one element of a list
-- an empty list that has room for so many
abbrev pub has_room : {A : Type 0} → Vec A Global → ℕ → Bool
has_room room count = (vec_len room == 0) && nat_le count (vec_capacity room)

-- An element goes, or comes in at a place, where the place and the room that is kept for the list fit. Nothing changes where
-- they don't.
abbrev pub spliced : {A : Type 0} → Splice A → List A → List A
spliced (Remove place room) list = if nat_lt place (length list) && has_room room (length list - 1) then remove list place else list
spliced (Insert place item room) list = if nat_le place (length list) && has_room room (length list + 1) then insert list place item else list

-- ---- parts of tables
-- other numbers of goods
abbrev pub with_numbers : Numbers → List (GoodId × Fraction) → Table → Table
with_numbers Wants numbers t = record t { wants = numbers }
with_numbers Imports numbers t = record t { imports = numbers }
with_numbers Surpluses numbers t = record t { surpluses = numbers }

abbrev pub with_row_price : Fraction → TableRow → TableRow
with_row_price price row = record row { price = price }

abbrev pub with_price_at : ℕ → Fraction → Table → Table
with_price_at row price t = record t { rows = with_at (with_row_price price) row t.rows }

abbrev pub with_rows : Splice TableRow → Table → Table
with_rows splice t = record t { rows = spliced splice t.rows }

abbrev pub with_power : Bool → Table → Table
with_power on t = record t { power = on }

-- a table with a part put in its place
abbrev pub part_restored : TablePart → Table → Table
part_restored (part.Rows splice) t = with_rows splice t
part_restored (part.Goods list numbers) t = with_numbers list numbers t
part_restored (part.Price row price) t = with_price_at row price t
part_restored (part.Power on) t = with_power on t

-- the tables with a part put in its place
abbrev pub tables_restored : TableUndo → List Table → List Table
tables_restored (undo.Tables splice) ts = spliced splice ts
tables_restored (undo.Part table part) ts = with_at (part_restored part) table ts
