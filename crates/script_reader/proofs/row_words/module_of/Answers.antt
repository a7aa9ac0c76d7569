use Rattle.std.proofs.Common.{refl}
use Rattle.script_reader.proofs.Readings.{answers_of_fault, answers_first, answers_next, answers_gives}
use Rattle.script_reader.proofs.row_words.module_of.Goals as goal

pub returns-in_err-item : goal.returns-in_err-item
returns-in_err-item c = answers_of_fault _ c.in_err-item.field-0.0 _ c.from_residual.ensures (answers_first _ _ _ c.in_err-item.ensures)

pub returns-in_err-count : goal.returns-in_err-count
returns-in_err-count c = answers_of_fault _ c.in_err-count.field-0.0 _ c.from_residual-in_err-count.ensures (answers_next _ _ c.in_ok-item.item _ c.in_ok-item.ensures (answers_first _ _ _ c.in_err-count.ensures))

pub returns : goal.returns
returns c = answers_next _ _ c.in_ok-item.item _ c.in_ok-item.ensures (answers_next _ _ c.in_ok-count.count _ c.in_ok-count.ensures (answers_gives _ _ refl))
