use Rattle.std.proofs.Common.{refl}
use Rattle.script_reader.proofs.Readings.{answers_of_fault, answers_three, answers_first, answers_next, answers_gives, triples}
use Rattle.script_reader.proofs.arguments.want.Goals as goal

pub returns-in_err-good : goal.returns-in_err-good
returns-in_err-good c = answers_of_fault _ c.in_err-good.field-0.0 _ c.from_residual.ensures (answers_three _ _ _ _ _ _ c.in-Some.ensures (answers_first _ _ _ c.in_err-good.ensures))

pub returns-in_err-amount : goal.returns-in_err-amount
returns-in_err-amount c = answers_of_fault _ c.in_err-amount.field-0.0 _ c.from_residual-in_err-amount.ensures (answers_three _ _ _ _ _ _ c.in-Some.ensures (answers_next _ _ c.in_ok-good.good _ c.in_ok-good.ensures (answers_first _ _ _ c.in_err-amount.ensures)))

pub returns : goal.returns
returns c = answers_three _ _ _ _ _ _ c.in-Some.ensures (answers_next _ _ c.in_ok-good.good _ c.in_ok-good.ensures (answers_next _ _ c.in_ok-amount.amount _ c.in_ok-amount.ensures (answers_gives _ _ (triples _ _ _ _ _ _ c.in-Ok.ensures refl refl))))
