-- Whole parts by the digits at the front of a text.
use Rattle.std.specs.Prelude.{◌≡◌, ℕ, Bool, true, false, List, [], ◌++◌, length, IsTrue, ◌↔◌, ◌==◌}
use Rattle.std.proofs.Common.{sym, ap, subst, ◌∙◌, eqb-true, append-nil}
use Rattle.std.proofs.lemmas.List.{nil_from_length}
use Rattle.fractions.specs.Digits.{front_digits, behind_digits}
use Rattle.fractions.specs.Numeral.{IsWholePart}
use Rattle.fractions.specs.Split.{is_whole}
use Rattle.fractions.proofs.Run.{front-behind, front_all_digits, front-append}
use Rattle.fractions.proofs.Grammar.{whole_sound, whole_found}

all_front : (text : List ℕ) → behind_digits text ≡ [] → front_digits text ≡ text
all_front text e = sym (append-nil (front_digits text)) ∙ (ap (λ t. front_digits text ++ t) (sym e) ∙ front-behind text)

whole_all : (text : List ℕ) → IsWholePart text → (front_digits text ≡ text) × (behind_digits text ≡ [])
whole_all text w =
    let r : (front_digits (text ++ []) ≡ text) × (behind_digits (text ++ []) ≡ []) = front-append text [] w.digits tt in
    (ap front_digits (sym (append-nil text)) ∙ r.0, ap behind_digits (sym (append-nil text)) ∙ r.1)

pub whole_iff : (text digits rest : List ℕ) (b : Bool) → digits ≡ front_digits text → rest ≡ behind_digits text → (length rest == 0) ≡ true → b ≡ is_whole digits → IsTrue b ↔ IsWholePart text
whole_iff text digits rest b ed er h eb =
    let none : rest ≡ [] = nil_from_length rest (eqb-true (length rest) 0 h) in
    let all : front_digits text ≡ text = all_front text (sym er ∙ none) in (
      λ t. subst IsWholePart all (whole_sound (front_digits text) (front_all_digits text) (ap is_whole (sym ed) ∙ (sym eb ∙ t))),
      λ w. eb ∙ (ap is_whole (ed ∙ all) ∙ whole_found text w),
    )

pub not_whole : (text rest : List ℕ) → rest ≡ behind_digits text → (length rest == 0) ≡ false → ¬ IsWholePart text
not_whole text rest er h w = let e : (length rest == 0) ≡ true = ap (λ l. length l == 0) (er ∙ (whole_all text w).1) in cc
