use Rattle.std.proofs.Common.{sym}
use Rattle.plan_base.specs.declared.denied.Denied.TheVariants.{Refused}
use Rattle.game_types.proofs.Walks.{returned}
use Rattle.production_table.specs.Changes.{new_row}
use Rattle.production_table.proofs.Added.{added_fault, added_is, added_rows, added_sound}
use Rattle.production_table.proofs.tables.Table.add_row.Goals as goal

pub returns-in_err-check_row-clause-change : goal.returns-in_err-check_row-clause-change
returns-in_err-check_row-clause-change c =
    added_fault c.args.game.now c.args.label.now c.args.setup c.args.self.now c.in_err-check_row.field-0.0 c.from_residual.result
    (returned c.from_residual.result (Refused c.in_err-check_row.field-0.0) c.from_residual.ensures) (sym c.in_err-check_row.ensures)

pub returns-clause-change : goal.returns-clause-change
returns-clause-change c =
    added_is c.args.game.now c.args.label.now c.args.setup c.args.self.now c.insert_row.new.rows (sym c.in_ok-check_row.ensures)
    (added_rows c.args.self.now c.insert_row.new.rows c.len-end.result c.in_ok-row.row (new_row c.args.label.now c.args.setup) c.len-end.ensures c.in_ok-row.ensures c.in_ok-insert_row.ensures.ok)

pub returns-clause-sound : goal.returns-clause-sound
returns-clause-sound c =
    added_sound c.args.game.now c.args.label.now c.args.setup c.args.self.now c.insert_row.new.rows (sym c.in_ok-check_row.ensures)
    (added_rows c.args.self.now c.insert_row.new.rows c.len-end.result c.in_ok-row.row (new_row c.args.label.now c.args.setup) c.len-end.ensures c.in_ok-row.ensures c.in_ok-insert_row.ensures.ok)
    c.requires.sound
