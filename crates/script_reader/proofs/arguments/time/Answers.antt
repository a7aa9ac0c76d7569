use Rattle.std.proofs.Common.{refl}
use Rattle.script_reader.proofs.Readings.{answers_of_fault, answers_two, answers_first, answers_next, answers_gives}
use Rattle.script_reader.proofs.arguments.time.Goals as goal

pub returns-in_err-recipe : goal.returns-in_err-recipe
returns-in_err-recipe c = answers_of_fault _ c.in_err-recipe.field-0.0 _ c.from_residual.ensures (answers_two _ _ _ _ _ c.in-Some.ensures (answers_first _ _ _ c.in_err-recipe.ensures))

pub returns-in_err-seconds : goal.returns-in_err-seconds
returns-in_err-seconds c = answers_of_fault _ c.in_err-seconds.field-0.0 _ c.from_residual-in_err-seconds.ensures (answers_two _ _ _ _ _ c.in-Some.ensures (answers_next _ _ c.in_ok-recipe.recipe _ c.in_ok-recipe.ensures (answers_first _ _ _ c.in_err-seconds.ensures)))

pub returns : goal.returns
returns c = answers_two _ _ _ _ _ c.in-Some.ensures (answers_next _ _ c.in_ok-recipe.recipe _ c.in_ok-recipe.ensures (answers_next _ _ c.in_ok-seconds.seconds _ c.in_ok-seconds.ensures (answers_gives _ _ refl)))
