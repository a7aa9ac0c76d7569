-- The lines of a script with others behind it.
use Rattle.std.proofs.Common.{◌≡◌, ◌≤◌, ◌+◌, ◌++◌, ◌∷◌, [], ℕ, suc, Bool, true, false, not, List, length, ap, sym, subst, refl, ◌∙◌, map, arith}
use Rattle.std.specs.Prelude.{◌==◌, if◌then◌else◌, Option, Some, None, slice_get, ◌-◌}
use Rattle.std.proofs.lemmas.List.{map-append, length-append}
use Rattle.std.proofs.lemmas.Bool.{not-false, not-true}
use native.Mathlib.Numerals.{unary_clauses}
use Rattle.planner_core.specs.Lines.{Planned}
use Rattle.plan_io.specs.Lines.{cut_lines, lines_of, onto_first, without_return}
use Rattle.script_runner.specs.Leading.{Accepted, Continues, LeadsToPlan, ends_within, joined}
use Rattle.script_runner.specs.declared.stepping.Progress.{Progress}
use Rattle.script_runner.proofs.LeadingLemmas.{accepted_start}

-- ---- the end of a text
abbrev is_open : Option ℕ → Bool
is_open None = false
is_open (Some byte) = not (byte == 10)

get_behind : (byte : ℕ) (rest : List ℕ) (n : ℕ) → slice_get (byte ∷ rest) (suc (suc n) - 1) ≡ slice_get rest (suc n - 1)
get_behind byte rest n = simp unary_clauses refl

pub ends_within_last : (text : List ℕ) → ends_within text ≡ is_open (slice_get text (length text - 1))
ends_within_last [] = refl
ends_within_last (byte ∷ []) = refl
ends_within_last (byte ∷ next ∷ rest) = ends_within_last (next ∷ rest) ∙ ap is_open (sym (get_behind byte (next ∷ rest) (length rest)))

ends_newline : (text : List ℕ) → ends_within (text ++ 10 ∷ []) ≡ false
ends_newline [] = refl
ends_newline (byte ∷ []) = refl
ends_newline (byte ∷ next ∷ rest) = ends_newline (next ∷ rest)

-- ---- the lines
cut_byte : (byte : ℕ) (lines more : List (List ℕ)) → ((lines ≡ []) → (byte == 10) ≡ true)
    → (if byte == 10 then [] ∷ (lines ++ more) else onto_first byte (lines ++ more)) ≡ (if byte == 10 then [] ∷ lines else onto_first byte lines) ++ more
cut_byte byte lines more none = by_test (byte == 10) lines none
  where
    by_test : (test : Bool) (lines : List (List ℕ)) → ((lines ≡ []) → test ≡ true)
        → (if test then [] ∷ (lines ++ more) else onto_first byte (lines ++ more)) ≡ (if test then [] ∷ lines else onto_first byte lines) ++ more
    by_test true lines none = refl
    by_test false [] none = cc (none refl)
    by_test false (line ∷ lines) none = refl

some_lines : (byte : ℕ) (rest : List ℕ) → cut_lines (byte ∷ rest) ≡ [] → (t : Bool) → t ≡ true
some_lines byte rest none t = by_test (byte == 10) (cut_lines rest) none
  where
    by_test : (test : Bool) (lines : List (List ℕ)) → (if test then [] ∷ lines else onto_first byte lines) ≡ [] → t ≡ true
    by_test true lines none = cc
    by_test false [] none = cc
    by_test false (line ∷ lines) none = cc

cut_append : (text more : List ℕ) → ends_within text ≡ false → cut_lines (text ++ more) ≡ cut_lines text ++ cut_lines more
cut_append [] more ends = refl
cut_append (byte ∷ []) more ends = cut_byte byte [] (cut_lines more) (λ none. not-false (byte == 10) ends)
cut_append (byte ∷ next ∷ rest) more ends =
    ap (λ l. if byte == 10 then [] ∷ l else onto_first byte l) (cut_append (next ∷ rest) more ends)
    ∙ cut_byte byte (cut_lines (next ∷ rest)) (cut_lines more) (λ none. some_lines next rest none (byte == 10))

cut_newline : (text : List ℕ) → ends_within text ≡ true → cut_lines (text ++ 10 ∷ []) ≡ cut_lines text
cut_newline [] ends = cc
cut_newline (byte ∷ []) ends = rw (not-true (byte == 10) ends) refl
cut_newline (byte ∷ next ∷ rest) ends = ap (λ l. if byte == 10 then [] ∷ l else onto_first byte l) (cut_newline (next ∷ rest) ends)

pub lines_of_joined : (script lines : List ℕ) → lines_of (joined script lines) ≡ lines_of script ++ lines_of lines
lines_of_joined script lines = ap (λ l. map without_return l) (by_test (ends_within script) refl) ∙ map-append without_return (cut_lines script) (cut_lines lines)
  where
    by_test : (test : Bool) → ends_within script ≡ test → cut_lines ((if test then script ++ 10 ∷ [] else script) ++ lines) ≡ cut_lines script ++ cut_lines lines
    by_test true is = cut_append (script ++ 10 ∷ []) lines (ends_newline script) ∙ ap (λ l. l ++ cut_lines lines) (cut_newline script is)
    by_test false is = cut_append script lines is

-- a script's lines and then others lead to a plan, and so does the whole
pub leads_to_plan : (first middle last : Planned) (script lines whole : List ℕ) (start done final : Progress) → Continues first script start middle done → Continues middle lines done last final
    → start.count ≡ 0 → start.planned ≡ false → done.count ≡ length (lines_of script) → final.count ≡ done.count + length (lines_of lines) → final.count ≤ 100_000 → final.planned ≡ true
    → whole ≡ joined script lines → LeadsToPlan first whole last
leads_to_plan first middle last script lines whole start done final one other count planned counted further few is_planned is =
    let same : lines_of whole ≡ lines_of script ++ lines_of lines = ap lines_of is ∙ lines_of_joined script lines in
    let long : length (lines_of whole) ≡ length (lines_of script ++ lines_of lines) = ap length same in
    record {
      few = omega (arith, long, length-append (lines_of script) (lines_of lines), counted, further, few);
      done = final;
      accepted = subst (λ l. Accepted first l final last) (sym same) (other first (lines_of script) (one first [] (accepted_start first start count planned)));
      planned = is_planned;
    }
