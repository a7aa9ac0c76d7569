use Rattle.std.proofs.Common.{refl}
use Rattle.script_reader.proofs.Readings.{answers_of_fault, answers_two, answers_first, answers_next, answers_gives, pairs}
use Rattle.script_reader.proofs.arguments.power.Goals as goal

pub returns-in_err-on : goal.returns-in_err-on
returns-in_err-on c = answers_of_fault _ c.in_err-on.field-0.0 _ c.from_residual.ensures (answers_two _ _ _ _ _ c.in-Some.ensures (answers_first _ _ _ c.in_err-on.ensures))

pub returns : goal.returns
returns c = answers_two _ _ _ _ _ c.in-Some.ensures (answers_next _ _ c.in_ok-on.on _ c.in_ok-on.ensures (answers_gives _ _ (pairs _ _ _ _ c.in-Ok.ensures refl)))
