use Rattle.std.proofs.Common.{refl}
use Rattle.script_reader.proofs.Readings.{answers_of_fault, answers_first, answers_next, answers_gives}
use Rattle.script_reader.proofs.commands.wanting.Goals as goal

pub returns : goal.returns
returns c = answers_next _ _ (c.in_ok-table.table, c.in_ok-table.good, c.in_ok-table.amount) _ c.in_ok-table.ensures (answers_gives _ _ refl)

pub returns-in_err-table : goal.returns-in_err-table
returns-in_err-table c = answers_of_fault _ c.in_err-table.field-0.0 _ c.from_residual.ensures (answers_first _ _ _ c.in_err-table.ensures)
