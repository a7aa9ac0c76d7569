-- A character of three bytes between two places.
use Rattle.std.proofs.Common.{◌≡◌, ◌∙◌, ℕ, ◌+◌, List, get_or, refl, ap, sym, subst, arith, inl, inr, true}
use Rattle.std.specs.Prelude.{slice_range}
use Rattle.std.proofs.lemmas.Bool.Decides.{nat_tests}
use Rattle.json_text.specs.Lending.{IsUnmarked}
use Rattle.json_text.specs.Lexing.{LexRuns, lex_end, lex_next}
use Rattle.json_text.specs.Wide.{begins_wide, is_tail, IsWideAt}
use Rattle.json_text.specs.declared.lex.Lex.TheVariants.{Between, Tail1, Tail2}
use Rattle.json_text.specs.declared.lex.LexGo.TheVariants.{Goes}
use Rattle.json_text.proofs.Steps.{slice-empty}
use Rattle.json_text.proofs.Lexed.{push_at, push_unmarked}

first_goes : (b : ℕ) → begins_wide b ≡ true → lex_next Between b ≡ Goes Tail2
first_goes b h = grind (arith, nat_tests)

second_goes : (b : ℕ) → is_tail b ≡ true → lex_next Tail2 b ≡ Goes Tail1
second_goes b h = rw h refl

third_goes : (b : ℕ) → is_tail b ≡ true → lex_next Tail1 b ≡ Goes Between
third_goes b h = rw h refl

no_backslash : (b : ℕ) → begins_wide b ≡ true → b ≡ 92 → ⊥
no_backslash b h e = grind (arith, nat_tests)

pub record Wide (bytes : List ℕ) (at : ℕ) : Type 0 where
  pub runs : LexRuns Between (slice_range bytes at (at + 3))
  pub whole : lex_end Between (slice_range bytes at (at + 3)) ≡ Between
  pub unmarked : IsUnmarked (slice_range bytes at (at + 3))

pub wide_at : (bytes : List ℕ) (at : ℕ) → IsWideAt bytes at → Wide bytes at
wide_at bytes at h =
    let empty = slice-empty bytes at in
    let within = h.within in
    let two : (at + 1) + 1 ≡ at + 2 = omega arith in
    let three : (at + 2) + 1 ≡ at + 3 = omega arith in
    let g1 = first_goes (get_or bytes at 0) h.first in
    let g2 = second_goes (get_or bytes (at + 1) 0) h.second in
    let g3 = third_goes (get_or bytes (at + 2) 0) h.third in
    let p1 = push_at bytes at at Between Tail2 (omega arith) (omega arith) (subst (LexRuns Between) (sym empty) tt) (ap (lex_end Between) empty) g1 in
    let p2 = push_at bytes at (at + 1) Tail2 Tail1 (omega arith) (omega arith) p1.runs p1.end g2 in
    let p3 = push_at bytes at (at + 2) Tail1 Between (omega arith) (omega arith) (subst (λ i. LexRuns Between (slice_range bytes at i)) two p2.runs) (ap (λ i. lex_end Between (slice_range bytes at i)) (sym two) ∙ p2.end) g3 in
    let no = no_backslash (get_or bytes at 0) h.first in
    let u1 = push_unmarked bytes at at Between Tail2 (omega arith) (omega arith) g1 (inl refl) no (refl, subst IsUnmarked (sym empty) refl) in
    let u2 = push_unmarked bytes at (at + 1) Tail2 Tail1 (omega arith) (omega arith) g2 (inr (λ e. cc)) no u1 in
    let u3 = push_unmarked bytes at (at + 2) Tail1 Between (omega arith) (omega arith) g3 (inr (λ e. cc)) no (u2.0, subst (λ i. IsUnmarked (slice_range bytes at i)) two u2.1) in
    record {
      runs = subst (λ i. LexRuns Between (slice_range bytes at i)) three p3.runs;
      whole = ap (λ i. lex_end Between (slice_range bytes at i)) (sym three) ∙ p3.end;
      unmarked = subst (λ i. IsUnmarked (slice_range bytes at i)) three u3.1;
    }
