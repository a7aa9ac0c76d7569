use Rattle.std.proofs.Common.{refl}
use Rattle.script_reader.proofs.Readings.{answers_of_fault, answers_three, answers_first, answers_next, answers_gives, triples}
use Rattle.script_reader.proofs.arguments.price.Goals as goal

pub returns-in_err-price : goal.returns-in_err-price
returns-in_err-price c = answers_of_fault _ c.in_err-price.field-0.0 _ c.from_residual.ensures (answers_three _ _ _ _ _ _ c.in-Some.ensures (answers_first _ _ _ c.in_err-price.ensures))

pub returns : goal.returns
returns c = answers_three _ _ _ _ _ _ c.in-Some.ensures (answers_next _ _ c.in_ok-price.price _ c.in_ok-price.ensures (answers_gives _ _ (triples _ _ _ _ _ _ c.in-Ok.ensures c.in-Ok-copy_text.ensures refl)))
