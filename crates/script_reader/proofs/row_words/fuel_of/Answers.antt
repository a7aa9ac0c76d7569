use Rattle.std.proofs.Common.{refl}
use Rattle.script_reader.proofs.Readings.{answers_of_fault, answers_first, answers_next, answers_gives}
use Rattle.script_reader.proofs.row_words.fuel_of.Goals as goal

pub returns : goal.returns
returns c = answers_next _ _ c.in_ok-item.item _ c.in_ok-item.ensures (answers_gives _ _ refl)

pub returns-in_err-item : goal.returns-in_err-item
returns-in_err-item c = answers_of_fault _ c.in_err-item.field-0.0 _ c.from_residual.ensures (answers_first _ _ _ c.in_err-item.ensures)
