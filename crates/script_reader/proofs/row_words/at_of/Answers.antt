use Rattle.std.proofs.Common.{refl}
use Rattle.script_reader.proofs.Readings.{answers_of_fault, answers_first, answers_next, answers_gives}
use Rattle.script_reader.proofs.row_words.at_of.Goals as goal

pub returns : goal.returns
returns c = answers_next _ _ c.in_ok-fluid.fluid _ c.in_ok-fluid.ensures (answers_gives _ _ refl)

pub returns-in_err-fluid : goal.returns-in_err-fluid
returns-in_err-fluid c = answers_of_fault _ c.in_err-fluid.field-0.0 _ c.from_residual.ensures (answers_first _ _ _ c.in_err-fluid.ensures)
