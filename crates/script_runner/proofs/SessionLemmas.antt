-- A session grows by one line.
use Rattle.std.proofs.Common.{◌≡◌, ◌+◌, ◌++◌, ◌∷◌, [], ℕ, zero, suc, List, length, map, arith, ap, sym, subst, refl, ◌∙◌, append-nil}
use Rattle.std.specs.Prelude.{All, ◌||◌, Ok, Option, Some, None, option_to_list}
use Rattle.std.specs.List.{cons_option, range_with_len}
use Rattle.std.proofs.lemmas.List.{map-append, length-append}
use Rattle.std.proofs.lemmas.List.Elements.{All-append, All-cons, All-nil, filter_map-append}
use Rattle.std.proofs.lemmas.List.Concat.{flat_map-append}
use Rattle.std.proofs.lemmas.List.Folds.{list_any-append}
use Rattle.std.proofs.lemmas.List.Sums.{sum_by-append}
use Rattle.plan_base.proofs.Bools.{or_false}
use Rattle.edit_undo.specs.Edits.{apply_edits}
use Rattle.edit_undo.specs.Kept.{session_of}
use Rattle.edit_undo.specs.Session.{active_edits}
use Rattle.edit_undo.proofs.Moves.{history_active}
use Rattle.state_changes.specs.Effects.{effect_of, is_entry}
use Rattle.state_changes.specs.States.{State}
use Rattle.state_changes.specs.Undoing.{LeadsBack}
use Rattle.planner_core.specs.Lines.{IsSessionOf, Planned}
use Rattle.script_runner.specs.Answers.{Answered, IsAnswered, is_refusal, solved_in, text_of, work_of}
use Rattle.script_runner.specs.Sessions.{IsSession, report, solutions, some_refused, work}

range_more : (a n : ℕ) → range_with_len a (suc n) ≡ range_with_len a n ++ (a + n) ∷ []
range_more a zero = let same : a ≡ a + 0 = omega arith in ap (λ m. m ∷ []) same
range_more a (suc n) =
    let same : a + 1 + n ≡ a + suc n = omega arith in
    ap (λ l. a ∷ l) (range_more (a + 1) n ∙ ap (λ m. range_with_len (a + 1) n ++ m ∷ []) same)

-- no line is answered yet
pub session_first : (p : Planned) → IsSession p [] [] p
session_first p = record { each = All-nil IsAnswered; of_lines = refl; numbers = refl; planners = refl }

-- one more line
pub session_more : (first : Planned) (lines : List (List ℕ)) (answers : List Answered) (a : Answered) → IsSession first lines answers a.before → IsAnswered a
    → a.number ≡ length answers + 1 → IsSession first (lines ++ a.line ∷ []) (answers ++ a ∷ []) a.after
session_more first lines answers a s is number = record {
  each = All-append IsAnswered answers (a ∷ []) s.each (All-cons IsAnswered a [] is (All-nil IsAnswered));
  of_lines = map-append (λ b. b.line) answers (a ∷ []) ∙ ap (λ l. l ++ a.line ∷ []) s.of_lines;
  numbers = map-append (λ b. b.number) answers (a ∷ []) ∙ (ap (λ l. l ++ a.number ∷ []) s.numbers ∙ (ap (λ (m : ℕ). range_with_len 1 (length answers) ++ m ∷ []) place ∙ (sym (range_more 1 (length answers)) ∙ ap (λ (n : ℕ). range_with_len 1 n) long)));
  planners = ap (λ l. first ∷ l) (map-append (λ b. b.after) answers (a ∷ [])) ∙ (ap (λ l. l ++ a.after ∷ []) s.planners ∙ ap (λ l. l ++ a.after ∷ []) (sym (map-append (λ b. b.before) answers (a ∷ []))));
}
  where
    place : a.number ≡ 1 + length answers
    place = omega (arith, number)

    long : suc (length answers) ≡ length (answers ++ a ∷ [])
    long = omega (arith, length-append answers (a ∷ []))

pub report_more : (answers : List Answered) (a : Answered) → report (answers ++ a ∷ []) ≡ report answers ++ text_of a
report_more answers a = flat_map-append text_of answers (a ∷ []) ∙ ap (λ t. report answers ++ t) (append-nil (text_of a))

pub refused_more : (answers : List Answered) (a : Answered) → some_refused (answers ++ a ∷ []) ≡ (some_refused answers || is_refusal a)
refused_more answers a = list_any-append is_refusal answers (a ∷ []) ∙ ap (λ b. some_refused answers || b) (or_false (is_refusal a))

one_kept : {X : Type 0} (o : Option X) → cons_option o [] ≡ option_to_list o
one_kept None = refl
one_kept (Some x) = refl

pub solved_more : (answers : List Answered) (a : Answered) → solutions (answers ++ a ∷ []) ≡ solutions answers ++ option_to_list (solved_in a.reply)
solved_more answers a = filter_map-append (λ b. solved_in b.reply) answers (a ∷ []) ∙ ap (λ l. solutions answers ++ l) (one_kept (solved_in a.reply))

pub work_more : (answers : List Answered) (a : Answered) → work (answers ++ a ∷ []) ≡ work answers + work_of a
work_more answers a = let same : work answers + (0 + work_of a) ≡ work answers + work_of a = omega arith in sum_by-append work_of answers (a ∷ []) ∙ same

-- ---- what the planners of a session have grown from
abbrev pub Grown : State → Answered → Type 0
Grown base a = IsSessionOf base a.before × IsSessionOf base a.after

grown_from : (base : State) (answers : List Answered) (first last : Planned) → All IsAnswered answers → first ∷ map (λ a. a.after) answers ≡ map (λ a. a.before) answers ++ last ∷ []
    → IsSessionOf base first → All (Grown base) answers × IsSessionOf base last
grown_from base [] first last each is from = let same : first ≡ last = cc in (All-nil (Grown base), subst (IsSessionOf base) same from)
grown_from base (a ∷ answers) first last each is from =
    let head : first ≡ a.before = cc in
    let tail : a.after ∷ map (λ b. b.after) answers ≡ map (λ b. b.before) answers ++ last ∷ [] = cc in
    let before = subst (IsSessionOf base) head from in
    let answered : IsAnswered a = each 0 a (omega arith) in
    let after = answered.history base before in
    let rest = grown_from base answers a.after last (λ k d within. each (suc k) d (omega (arith, within))) tail after in
    (All-cons (Grown base) a answers (before, after) rest.0, rest.1)

pub grown : (base : State) (first last : Planned) (lines : List (List ℕ)) (answers : List Answered) → IsSession first lines answers last → IsSessionOf base first
    → All (Grown base) answers × IsSessionOf base last
grown base first last lines answers s from = grown_from base answers first last s.each s.planners from

pub afresh : (base : State) (p : Planned) → IsSessionOf base p → apply_edits effect_of base (active_edits (session_of p.kept)) ≡ Ok p.state
afresh base p history = history_active effect_of is_entry LeadsBack p.kept base p.state history
