use Rattle.std.proofs.Common.{refl}
use Rattle.script_reader.proofs.Readings.{answers_of_fault, answers_first, answers_next, answers_gives}
use Rattle.script_reader.proofs.commands.unlocking.Goals as goal

pub returns : goal.returns
returns c = answers_next _ _ (c.in_ok-tech.tech, c.in_ok-tech.recipe, c.in_ok-tech.on) _ c.in_ok-tech.ensures (answers_gives _ _ refl)

pub returns-in_err-tech : goal.returns-in_err-tech
returns-in_err-tech c = answers_of_fault _ c.in_err-tech.field-0.0 _ c.from_residual.ensures (answers_first _ _ _ c.in_err-tech.ensures)
