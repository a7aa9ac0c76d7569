use Rattle.std.proofs.Common.{refl}
use Rattle.script_reader.proofs.Readings.{answers_of_fault, answers_two, answers_first, answers_next, answers_gives}
use Rattle.script_reader.proofs.arguments.enabled.Goals as goal

pub returns-in_err-on : goal.returns-in_err-on
returns-in_err-on c = answers_of_fault _ c.in_err-on.field-0.0 _ c.from_residual.ensures (answers_two _ _ _ _ _ c.in-Some.ensures (answers_first _ _ _ c.in_err-on.ensures))

pub returns-in_err-recipe : goal.returns-in_err-recipe
returns-in_err-recipe c = answers_of_fault _ c.in_err-recipe.field-0.0 _ c.from_residual-in_err-recipe.ensures (answers_two _ _ _ _ _ c.in-Some.ensures (answers_next _ _ c.in_ok-on.on _ c.in_ok-on.ensures (answers_first _ _ _ c.in_err-recipe.ensures)))

pub returns : goal.returns
returns c = answers_two _ _ _ _ _ c.in-Some.ensures (answers_next _ _ c.in_ok-on.on _ c.in_ok-on.ensures (answers_next _ _ c.in_ok-recipe.recipe _ c.in_ok-recipe.ensures (answers_gives _ _ refl)))
