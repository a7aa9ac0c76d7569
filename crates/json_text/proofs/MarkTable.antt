-- The marks of one key more.
use Rattle.std.proofs.Common.{◌≡◌, ◌<◌, ◌+◌, ℕ, List, Bool, true, false, length, take, get_or, set, refl, sym, ◌∙◌, ap, subst, arith, inl, inr}
use Rattle.std.specs.Prelude.{◌||◌}
use Rattle.std.specs.Str.{bytes_eq}
use Rattle.std.proofs.lemmas.Bool.{cases_eq, true≢false}
use Rattle.std.proofs.lemmas.List.{get_or-set_same, get_or-set_other, length-set}
use Rattle.std.proofs.lemmas.List.Folds.{list_any_more}
use Rattle.std.proofs.lemmas.Slice.Eq.{bytes_eq-Decides}
use Rattle.json_text.specs.Kept.{is_among}
use Rattle.json_text.specs.Marking.{HasMarks, mark_of}

or_left : (a b : Bool) → (a || b) ≡ true → (b ≡ true → ⊥) → a ≡ true
or_left true b e f = refl
or_left false b e f = absurd (f e)

pub no_marks : (keys : List (List ℕ)) (marks : List ℕ) → length marks ≡ 256 → HasMarks (take 0 keys) marks
no_marks keys marks long = record { as_long = long; each = λ key e. absurd (true≢false (sym e)) }

pub one_mark_more : (keys : List (List ℕ)) (marks : List ℕ) (i m n : ℕ) (d : List ℕ) → i < length keys → m ≡ mark_of (get_or keys i d) → m < 256 → 0 < n → HasMarks (take i keys) marks → HasMarks (take (i + 1) keys) (set marks m n)
one_mark_more keys marks i m n d lt is within some h = record {
  as_long = length-set marks m n ∙ h.as_long;
  each = λ key e. elim (cases_eq (mark_of key) m) [
    | inl same ↦ subst (λ j. 0 < get_or (set marks m n) j 0) (sym same) (subst (λ y. 0 < y) (sym (get_or-set_same marks m n 0 (omega (arith, h.as_long)))) some)
    | inr other ↦ subst
        (λ y. 0 < y)
        (sym (get_or-set_other marks m (mark_of key) n 0 other))
        (h.each
        key
        (or_left
        (is_among (take i keys) key)
        (bytes_eq (get_or keys i d) key)
        (sym (list_any_more (λ k. bytes_eq k key) keys i d lt) ∙ e)
        (λ there. other (ap mark_of (sym ((bytes_eq-Decides (get_or keys i d) key).0 there)) ∙ sym is))))
  ];
}
