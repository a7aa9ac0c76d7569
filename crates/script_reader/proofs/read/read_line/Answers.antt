use Rattle.std.specs.Prelude.{Bool, Ok, None}
use Rattle.std.proofs.Common.{refl, sym, ap, subst, ◌∙◌}
use Rattle.script_reader.specs.Reading.{Answers}
use Rattle.script_reader.specs.Lines.{command_unless, begins_comment}
use Rattle.script_reader.proofs.Readings.{answers_of_fault, answers_first, answers_next, answers_gives}
use Rattle.script_reader.proofs.read.read_line.Goals as goal

pub returns-in_err-check_utf8 : goal.returns-in_err-check_utf8
returns-in_err-check_utf8 c = answers_of_fault _ c.in_err-check_utf8.field-0.0 _ c.from_residual.ensures (answers_first _ _ _ c.in_err-check_utf8.ensures)

pub returns-then-begins_comment : goal.returns-then-begins_comment
returns-then-begins_comment c = answers_next _ _ tt _ c.in_ok-check_utf8.ensures (subst (λ (b : Bool). Answers (command_unless b c.args.line.now) (Ok None)) (sym (ap begins_comment (sym c.behind_separators.ensures) ∙ (sym c.begins_comment.ensures ∙ c.if-begins_comment.true))) (answers_gives _ _ refl))

pub returns-else-begins_comment : goal.returns-else-begins_comment
returns-else-begins_comment c = answers_next _ _ tt _ c.in_ok-check_utf8.ensures (subst (λ (b : Bool). Answers (command_unless b c.args.line.now) c.read_command.result) (sym (ap begins_comment (sym c.behind_separators.ensures) ∙ (sym c.begins_comment.ensures ∙ c.if-begins_comment.false))) c.read_command.ensures)
