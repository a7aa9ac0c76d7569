use Rattle.std.proofs.Common.{refl}
use Rattle.script_reader.proofs.Readings.{answers_of_fault, answers_first, answers_next, answers_gives}
use Rattle.script_reader.proofs.commands.timing.Goals as goal

pub returns : goal.returns
returns c = answers_next _ _ (c.in_ok-recipe.recipe, c.in_ok-recipe.seconds) _ c.in_ok-recipe.ensures (answers_gives _ _ refl)

pub returns-in_err-recipe : goal.returns-in_err-recipe
returns-in_err-recipe c = answers_of_fault _ c.in_err-recipe.field-0.0 _ c.from_residual.ensures (answers_first _ _ _ c.in_err-recipe.ensures)
