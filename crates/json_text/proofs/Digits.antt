-- Digits between two places lead a numeral on.
use Rattle.std.proofs.Common.{◌≡◌, ◌∙◌, ℕ, ◌+◌, ◌≤◌, List, [], ◌∷◌, ◌++◌, length, get_or, drop, refl, ap, sym, subst, arith, Bool, true, Some}
use Rattle.std.specs.Prelude.{slice_range}
use Rattle.std.specs.List.{list_all}
use Rattle.std.proofs.lemmas.Bool.{and_parts}
use Rattle.json_text.specs.Kept.{Wishes}
use Rattle.json_text.specs.Accepted.{all_bounds}
use Rattle.json_text.specs.Lexing.{is_digit, number_next}
use Rattle.json_text.specs.Machine.{Frame, from, run, in_number}
use Rattle.json_text.specs.Cutting.{Phases, NumberTo}
use Rattle.json_text.specs.declared.number.Phase.{Phase}
use Rattle.json_text.specs.declared.number.Phase.TheVariants.{Minus, Whole, Dot, Fraction}
use Rattle.json_text.proofs.Numerals.{phases_append}
use Rattle.json_text.proofs.Found.{not_minus}
use Rattle.json_text.proofs.Steps.{slice-empty, slice-front, slice-one, slice-length}
use Rattle.json_text.proofs.Lexed.{drop_split, slice_join}
use Rattle.json_text.proofs.Pieces.{run-phases}

pub no_phase : (bytes : List ℕ) (at : ℕ) (p : Phase) → Phases p (slice_range bytes at at) p
no_phase bytes at p = subst (λ xs. Phases p xs p) (sym (slice-empty bytes at)) refl

pub whole_on : (xs : List ℕ) → list_all is_digit xs ≡ true → Phases Whole xs Whole
whole_on [] h = refl
whole_on (b ∷ xs) h = let parts = and_parts (is_digit b) (list_all is_digit xs) h in (Whole, rw parts.0 refl, whole_on xs parts.1)

pub fraction_on : (xs : List ℕ) → list_all is_digit xs ≡ true → Phases Fraction xs Fraction
fraction_on [] h = refl
fraction_on (b ∷ xs) h = let parts = and_parts (is_digit b) (list_all is_digit xs) h in (Fraction, rw parts.0 refl, fraction_on xs parts.1)

dot_on : (b : ℕ) → is_digit b ≡ true → number_next Dot b ≡ Some Fraction
dot_on b h = rw h refl

-- a point and a digit
pub point_on : (bytes : List ℕ) (at : ℕ) (p : Phase) → at + 2 ≤ length bytes → number_next p (get_or bytes at 0) ≡ Some Dot → is_digit (get_or bytes (at + 1) 0) ≡ true → Phases p (slice_range bytes at (at + 2)) Fraction
point_on bytes at p within point digit =
    let place : at + 2 ≡ (at + 1) + 1 = omega arith in
    let two : slice_range bytes at (at + 2) ≡ get_or bytes at 0 ∷ (get_or bytes (at + 1) 0 ∷ []) =
    slice-front bytes at (at + 2) (omega arith) (omega arith) ∙ ap (λ i. get_or bytes at 0 ∷ slice_range bytes (at + 1) i) place ∙ ap (λ xs. get_or bytes at 0 ∷ xs) (slice-one bytes (at + 1) (omega arith)) in
    subst (λ xs. Phases p xs Fraction) (sym two) (Dot, point, (Fraction, dot_on (get_or bytes (at + 1) 0) digit, refl))

pub phases_join : (bytes : List ℕ) (a b c : ℕ) (p q r : Phase) → a ≤ b → b ≤ c → c ≤ length bytes → Phases p (slice_range bytes a b) q → Phases q (slice_range bytes b c) r → Phases p (slice_range bytes a c) r
phases_join bytes a b c p q r ab bc within h i = subst (λ xs. Phases p xs r) (slice_join bytes a b c ab bc within) (phases_append p q r (slice_range bytes a b) (slice_range bytes b c) h i)

pub still_no_minus : (p : Phase) (xs : List ℕ) (q : Phase) → (p ≡ Minus → ⊥) → Phases p xs q → q ≡ Minus → ⊥
still_no_minus p [] q n h m = n (h ∙ m)
still_no_minus p (b ∷ xs) q n h m = still_no_minus h.0 xs q (not_minus p h.0 b h.1) h.2 m

-- the front of a numeral with what leads it on
pub number_further : (bytes : List ℕ) (start at place : ℕ) (p q : Phase) → start ≤ at → at ≤ place → place ≤ length bytes → NumberTo p (slice_range bytes start at) → Phases p (slice_range bytes at place) q → NumberTo q (slice_range bytes start place)
number_further bytes start at place p q le on within t h = record {
  first = t.first;
  rest = t.rest ++ slice_range bytes at place;
  begin = t.begin;
  spelled = sym (slice_join bytes start at place le on within) ∙ ap (λ xs. xs ++ slice_range bytes at place) t.spelled;
  starts = t.starts;
  phases = phases_append t.begin p q t.rest (slice_range bytes at place) t.phases h;
}

pub from-phases : (w : Wishes) (bytes : List ℕ) (start at place : ℕ) (keep : Bool) (p q : Phase) (n : ℕ) (fs : List Frame) → start ≤ at → at ≤ place → place ≤ length bytes → Phases p (slice_range bytes at place) q
    → from w bytes at (in_number keep start (slice_range bytes start at) p n fs) ≡ from w bytes place (in_number keep start (slice_range bytes start place) q n fs)
unfolding from
from-phases w bytes start at place keep p q n fs le on within h =
    let xs = slice_range bytes at place in
    let digits = slice_range bytes start at in
    let there : at + length xs ≡ place = omega (arith, slice-length bytes at place on within) in
    ap (run all_bounds w at (in_number keep start digits p n fs)) (drop_split bytes at place on) ∙ run-phases all_bounds w at keep start digits p q n fs xs (drop place bytes) h
    ∙ ap (λ i. run all_bounds w i (in_number keep start (digits ++ xs) q n fs) (drop place bytes)) there
    ∙ ap (λ s. run all_bounds w place (in_number keep start s q n fs) (drop place bytes)) (slice_join bytes start at place le on within)
