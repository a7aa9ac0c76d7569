use Rattle.std.specs.Prelude.{List, [], Ok, Err}
use Rattle.std.proofs.Common.{refl, subst}
use Rattle.script_reader.specs.declared.parts.PartWords.{PartWords}
use Rattle.script_reader.specs.Reading.{Answers}
use Rattle.script_reader.specs.Arguments.{add_parts}
use Rattle.script_reader.proofs.Readings.{answers_of_fault, answers_first, answers_next, answers_gives, answers_memory, answers_five, wrong_five}
use Rattle.script_reader.proofs.PartLemmas.{fives}
use Rattle.script_reader.proofs.row_words.row_of.Goals as goal

pub returns-in_default : goal.returns-in_default
returns-in_default c = wrong_five _ _ c.in_default.ensures

pub returns-in_err-written : goal.returns-in_err-written
returns-in_err-written c = answers_of_fault _ c.in_err-written.field-0.0 _ c.from_residual.ensures (answers_five _ _ _ _ _ _ _ _ _ c.in-Some.ensures (answers_first _ _ _ c.in_err-written.ensures))

pub returns-in_err-activity : goal.returns-in_err-activity
returns-in_err-activity c = answers_of_fault _ c.in_err-activity.field-0.0 _ c.from_residual-in_err-activity.ensures (answers_five _ _ _ _ _ _ _ _ _ c.in-Some.ensures (answers_next _ _ c.in_ok-written.written _ c.in_ok-written.ensures (answers_first _ _ _ c.in_err-activity.ensures)))

pub returns-in_err-machine : goal.returns-in_err-machine
returns-in_err-machine c = answers_of_fault _ c.in_err-machine.field-0.0 _ c.from_residual-in_err-machine.ensures (answers_five _ _ _ _ _ _ _ _ _ c.in-Some.ensures (answers_next _ _ c.in_ok-written.written _ c.in_ok-written.ensures (answers_next _ _ c.in_ok-activity.activity _ c.in_ok-activity.ensures (answers_first _ _ _ c.in_err-machine.ensures))))

pub returns-in_err-parts : goal.returns-in_err-parts
returns-in_err-parts c = answers_of_fault _ c.in_err-parts.field-0.0 _ c.from_residual-in_err-parts.ensures (answers_five _ _ _ _ _ _ _ _ _ c.in-Some.ensures (answers_next _ _ c.in_ok-written.written _ c.in_ok-written.ensures (answers_next _ _ c.in_ok-activity.activity _ c.in_ok-activity.ensures (answers_next _ _ c.in_ok-machine.machine _ c.in_ok-machine.ensures (answers_first _ _ _ (subst (λ (l : List PartWords). Answers (add_parts [] l) (Err c.in_err-parts.field-0.0)) c.as_slice.ensures c.in_err-parts.ensures))))))

pub returns-in_default-copy_text : goal.returns-in_default-copy_text
returns-in_default-copy_text c = answers_memory _

pub returns-in_default-copy_text-2 : goal.returns-in_default-copy_text-2
returns-in_default-copy_text-2 c = answers_memory _

pub returns : goal.returns
returns c = answers_five _ _ _ _ _ _ _ _ _ c.in-Some.ensures (answers_next _ _ c.in_ok-written.written _ c.in_ok-written.ensures (answers_next _ _ c.in_ok-activity.activity _ c.in_ok-activity.ensures (answers_next _ _ c.in_ok-machine.machine _ c.in_ok-machine.ensures (answers_next _ _ c.in_ok-parts.parts _ (subst (λ (l : List PartWords). Answers (add_parts [] l) (Ok c.in_ok-parts.parts)) c.as_slice.ensures c.in_ok-parts.ensures) (answers_gives _ _ (fives _ _ _ _ _ _ _ _ _ _ c.in-Ok.ensures c.in-Ok-copy_text.ensures refl refl refl))))))
