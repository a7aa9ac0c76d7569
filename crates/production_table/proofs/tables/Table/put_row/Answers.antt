use Rattle.std.proofs.Common.{◌≡◌, ℕ, List, sym, ap, subst}
use Rattle.std.specs.Prelude.{OnErr, OnOk, Result, Ok, Err}
use Rattle.std.specs.List.{insert}
use Rattle.plan_base.specs.declared.text.NoMemory.{NoMemory}
use Rattle.production_table.specs.declared.tables.Table.{Table}
use Rattle.production_table.specs.declared.tables.TableRow.{TableRow}
use Rattle.production_table.specs.Changes.{with_row_at, HasRoom}
use Rattle.production_table.specs.Tables.{IsSoundTable}
use Rattle.production_table.proofs.Sound.{sound_insert}
use Rattle.production_table.proofs.tables.Table.put_row.Goals as goal

put : (t : Table) (place : ℕ) (row : TableRow) (rows : List TableRow) (r : Result (Unit {0}) NoMemory) → OnOk r (rows ≡ insert t.rows place row) → OnOk r (record t { rows = rows } ≡ with_row_at place row t)
unfolding with_row_at
put t place row rows (Ok done) h = ap (λ (rs : List TableRow). record t { rows = rs }) h
put t place row rows (Err fault) h = tt

sound : (t : Table) (place : ℕ) (row : TableRow) (rows : List TableRow) (r : Result (Unit {0}) NoMemory) → OnOk r (rows ≡ insert t.rows place row) → OnErr r (rows ≡ t.rows) → IsSoundTable t → HasRoom t place row
    → IsSoundTable (record t { rows = rows })
sound t place row rows (Ok done) h k s room = subst (λ (rs : List TableRow). IsSoundTable (record t { rows = rs })) (sym h) (sound_insert t place row s room)
sound t place row rows (Err fault) h k s room = subst (λ (rs : List TableRow). IsSoundTable (record t { rows = rs })) (sym k) s

pub returns-clause-change : goal.returns-clause-change
returns-clause-change c = put c.args.self.now c.args.place c.args.row c.insert_row.new.rows c.insert_row.result c.insert_row.ensures.ok

pub returns-clause-sound : goal.returns-clause-sound
returns-clause-sound c = sound c.args.self.now c.args.place c.args.row c.insert_row.new.rows c.insert_row.result c.insert_row.ensures.ok c.insert_row.ensures.err c.requires.sound c.requires.room
