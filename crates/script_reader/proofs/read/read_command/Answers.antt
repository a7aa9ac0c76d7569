use Rattle.std.specs.Prelude.{List, ℕ, Ok, Err}
use Rattle.std.proofs.Common.{refl, subst}
use Rattle.script_reader.specs.Reading.{Answers}
use Rattle.script_reader.specs.Arguments.{command_of_words}
use Rattle.script_reader.proofs.Readings.{answers_of_fault, answers_first, answers_next, answers_gives}
use Rattle.script_reader.proofs.read.read_command.Goals as goal

pub returns-in_err-words : goal.returns-in_err-words
returns-in_err-words c = answers_of_fault _ c.in_err-words.field-0.0 _ c.from_residual.ensures (answers_first _ _ _ c.in_err-words.ensures)

pub returns-in_err-command : goal.returns-in_err-command
returns-in_err-command c = answers_of_fault _ c.in_err-command.field-0.0 _ c.from_residual-in_err-command.ensures (answers_next _ _ c.in_ok-words.words _ c.in_ok-words.ensures (answers_first _ _ _ (subst (λ (w : List (List ℕ)). Answers (command_of_words w) (Err c.in_err-command.field-0.0)) c.as_slice.ensures c.in_err-command.ensures)))

pub returns : goal.returns
returns c = answers_next _ _ c.in_ok-words.words _ c.in_ok-words.ensures (answers_next _ _ c.in_ok-command.command _ (subst (λ (w : List (List ℕ)). Answers (command_of_words w) (Ok c.in_ok-command.command)) c.as_slice.ensures c.in_ok-command.ensures) (answers_gives _ _ refl))
