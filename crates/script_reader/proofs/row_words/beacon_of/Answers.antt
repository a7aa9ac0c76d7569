use Rattle.std.proofs.Common.{refl}
use Rattle.script_reader.proofs.Readings.{answers_of_fault, answers_first, answers_next, answers_gives}
use Rattle.script_reader.proofs.row_words.beacon_of.Goals as goal

pub returns-in_err-machine : goal.returns-in_err-machine
returns-in_err-machine c = answers_of_fault _ c.in_err-machine.field-0.0 _ c.from_residual.ensures (answers_first _ _ _ c.in_err-machine.ensures)

pub returns-in_err-count : goal.returns-in_err-count
returns-in_err-count c = answers_of_fault _ c.in_err-count.field-0.0 _ c.from_residual-in_err-count.ensures (answers_next _ _ c.in_ok-machine.machine _ c.in_ok-machine.ensures (answers_first _ _ _ c.in_err-count.ensures))

pub returns-in_err-share : goal.returns-in_err-share
returns-in_err-share c = answers_of_fault _ c.in_err-share.field-0.0 _ c.from_residual-in_err-share.ensures (answers_next _ _ c.in_ok-machine.machine _ c.in_ok-machine.ensures (answers_next _ _ c.in_ok-count.count _ c.in_ok-count.ensures (answers_first _ _ _ c.in_err-share.ensures)))

pub returns : goal.returns
returns c = answers_next _ _ c.in_ok-machine.machine _ c.in_ok-machine.ensures (answers_next _ _ c.in_ok-count.count _ c.in_ok-count.ensures (answers_next _ _ c.in_ok-share.share _ c.in_ok-share.ensures (answers_gives _ _ refl)))
