use Rattle.std.proofs.Common.{refl}
use Rattle.script_reader.proofs.Readings.{answers_of_fault, answers_first, answers_next, answers_gives}
use Rattle.script_reader.proofs.commands.alone.Goals as goal

pub returns : goal.returns
returns g c = answers_next _ _ tt _ c.in_ok-nothing_at.ensures (answers_gives _ _ refl)

pub returns-in_err-nothing_at : goal.returns-in_err-nothing_at
returns-in_err-nothing_at g c = answers_of_fault _ c.in_err-nothing_at.field-0.0 _ c.from_residual.ensures (answers_first _ _ _ c.in_err-nothing_at.ensures)
