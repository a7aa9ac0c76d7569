-- Categories, marked one by one.
use Rattle.std.proofs.Common.{◌≡◌, ◌≢◌, ◌∙◌, ◌<◌, ◌≤◌, ◌+◌, ℕ, Bool, true, false, List, length, drop, set, get_or, refl, ap, sym, subst, arith, length-set, get_or-set_same, get_or-set_other}
use Rattle.std.specs.Prelude.{◌==◌, ◌||◌}
use Rattle.std.proofs.lemmas.Bool.{or_right}
use Rattle.plan_base.proofs.Walks.{next, drop_all}
use Rattle.plan_base.proofs.Bools.{or_false}
use Rattle.graph_store.specs.Lists.{is_among}
use Rattle.depend_index.specs.Marks.{AreMarks}

-- the marks so far, with those that are to come
pub record MarkedSoFar (categories : List ℕ) (old : List Bool) (i : ℕ) (marks : List Bool) : Type 0 where
  pub as_long : length marks ≡ length old
  pub each : (k : ℕ) → k < length old → (get_or marks k false || is_among (drop i categories) k) ≡ (get_or old k false || is_among categories k)

pub marked_first : (categories : List ℕ) (old : List Bool) → MarkedSoFar categories old 0 old
marked_first categories old = record { as_long = refl; each = λ k _. refl }

put : (marks : List Bool) (x k : ℕ) (rest : Bool) → x < length marks → (b : Bool) → (x == k) ≡ b → (get_or (set marks x true) k false || rest) ≡ (get_or marks k false || (b || rest))
put marks x k rest within true is =
    let at : x ≡ k = grind (arith, is) in
    let same : get_or (set marks x true) x false ≡ true = rw get_or-set_same in
    subst (λ j. (get_or (set marks x true) j false || rest) ≡ (get_or marks j false || true)) at (ap (λ b. b || rest) same ∙ sym (or_right (get_or marks x false) true refl))
put marks x k rest within false is =
    let other : k ≢ x = λ at. grind (arith, is, at) in
    let same : get_or (set marks x true) k false ≡ get_or marks k false = rw get_or-set_other in
    ap (λ b. b || rest) same

pub marked_more : (categories : List ℕ) (old : List Bool) (i x : ℕ) (marks new : List Bool) → i < length categories → x ≡ get_or categories i x → x < length marks → new ≡ set marks x true
    → MarkedSoFar categories old i marks → MarkedSoFar categories old (i + 1) new
marked_more categories old i x marks new within is inside are before = record {
  as_long = ap length are ∙ length-set marks x true ∙ before.as_long;
  each = λ k small.
      ap (λ l. get_or l k false || is_among (drop (i + 1) categories) k) are ∙ put marks x k (is_among (drop (i + 1) categories) k) inside (x == k) refl
      ∙ ap (λ l. get_or marks k false || is_among l k) (sym (next categories i x within is)) ∙ before.each k small;
}

pub marked_past : (categories : List ℕ) (old : List Bool) (i x : ℕ) (marks : List Bool) → i < length categories → x ≡ get_or categories i x → length marks ≤ x
    → MarkedSoFar categories old i marks → MarkedSoFar categories old (i + 1) marks
marked_past categories old i x marks within is past before = record {
  as_long = before.as_long;
  each = λ k small.
      let other : (x == k) ≡ false = grind (arith, past, small, before.as_long) in
      ap (λ b. get_or marks k false || (b || is_among (drop (i + 1) categories) k)) (sym other)
      ∙ ap (λ l. get_or marks k false || is_among l k) (sym (next categories i x within is)) ∙ before.each k small;
}

pub marked_last : (categories : List ℕ) (old : List Bool) (i : ℕ) (marks : List Bool) → length categories ≤ i → ((k : ℕ) → k < length old → get_or old k false ≡ false) → MarkedSoFar categories old i marks → AreMarks categories marks
marked_last categories old i marks end clear before k within =
    let small : k < length old = omega (arith, within, before.as_long) in
    sym (or_false (get_or marks k false)) ∙ ap (λ l. get_or marks k false || is_among l k) (sym (drop_all categories i end)) ∙ before.each k small ∙ ap (λ b. b || is_among categories k) (clear k small)
