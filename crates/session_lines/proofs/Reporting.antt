-- The replies so far are the report of a session.
use Rattle.std.proofs.Common.{◌≡◌, ◌∙◌, ◌+◌, ◌++◌, ◌∷◌, [], ℕ, Bool, List, length, map, refl, sym, ap, subst, arith}
use Rattle.std.proofs.lemmas.List.{length-map}
use Rattle.planner_core.specs.Lines.{Planned}
use Rattle.script_runner.specs.Answers.{Answered, text_of}
use Rattle.script_runner.specs.Sessions.{IsSession, report}
use Rattle.script_runner.proofs.SessionLemmas.{report_more, session_first, session_more}
use Rattle.session_lines.specs.Told.{HasAnswered, IsToldAs}

pub nothing_answered : (p : Planned) → HasAnswered p [] [] p
nothing_answered p = record { answers = []; session = session_first p; told = refl }

-- as many lines are answered as there are
as_many : (first now : Planned) (lines : List (List ℕ)) (answers : List Answered) → IsSession first lines answers now → length lines ≡ length answers
as_many first now lines answers session = ap (λ (ls : List (List ℕ)). length ls) (sym session.of_lines) ∙ length-map answers (λ a. a.line)

pub one_answered : (first now after : Planned) (lines : List (List ℕ)) (replies line text : List ℕ) (refused : Bool) → HasAnswered first lines replies now
    → IsToldAs (length lines + 1) line now after text refused → HasAnswered first (lines ++ line ∷ []) (replies ++ text) after
one_answered first now after lines replies line text refused so_far told =
    let session : IsSession first lines so_far.answers told.answer.before = subst (IsSession first lines so_far.answers) (sym told.from) so_far.session in
    let number : told.answer.number ≡ length so_far.answers + 1 = told.of_number ∙ ap (λ (n : ℕ). n + 1) (as_many first now lines so_far.answers so_far.session) in
    let more = session_more first lines so_far.answers told.answer session told.is_answered number in
    record {
      answers = so_far.answers ++ told.answer ∷ [];
      session = subst (λ p. IsSession first (lines ++ line ∷ []) (so_far.answers ++ told.answer ∷ []) p) told.to
          (subst (λ l. IsSession first (lines ++ l ∷ []) (so_far.answers ++ told.answer ∷ []) told.answer.after) told.of_line more);
      told = ap (λ t. t ++ text) so_far.told ∙ (ap (λ t. report so_far.answers ++ t) told.told ∙ sym (report_more so_far.answers told.answer));
    }
