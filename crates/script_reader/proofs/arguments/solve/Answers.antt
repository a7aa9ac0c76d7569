use Rattle.std.specs.Prelude.{ℕ, List, Ok, Err}
use Rattle.std.proofs.Common.{refl, sym, subst}
use Rattle.script_reader.specs.Reading.{Answers}
use Rattle.script_reader.specs.Arguments.{solve_words}
use Rattle.script_reader.proofs.Readings.{answers_of_fault, answers_two, answers_first, answers_next, answers_gives, pairs}
use Rattle.script_reader.proofs.arguments.solve.Goals as goal

pub returns-in_err-budget : goal.returns-in_err-budget
returns-in_err-budget c = answers_of_fault _ c.in_err-budget.field-0.0 _ c.from_residual.ensures (subst (λ (w : List (List ℕ)). Answers (solve_words w) (Err c.in_err-budget.field-0.0)) (sym c.in-Some-two.ensures) (answers_two _ _ _ _ _ refl (answers_first _ _ _ c.in_err-budget.ensures)))

pub returns : goal.returns
returns c = subst (λ (w : List (List ℕ)). Answers (solve_words w) (Ok (c.in-Ok-copy_text.table, c.in_ok-budget.budget))) (sym c.in-Some-two.ensures) (answers_two _ _ _ _ _ refl (answers_next _ _ c.in_ok-budget.budget _ c.in_ok-budget.ensures (answers_gives _ _ (pairs _ _ _ _ c.in-Ok-copy_text.ensures refl))))
