-- Texts with commas between, written one behind another.
use Rattle.std.proofs.Common.{◌≡◌, ◌∙◌, ◌<◌, ℕ, suc, Bool, true, false, List, [], ◌∷◌, ◌++◌, length, refl, sym, ap, append_assoc, append-nil, arith}
use Rattle.std.specs.Prelude.{◌||◌, nat_lt}
use Rattle.std.proofs.lemmas.Bool.Decides.{nat_tests}
use Rattle.std.proofs.lemmas.Bool.{or_right}
use Rattle.plan_base.proofs.Bools.{or_false}
use Rattle.serde_json.specs.Written.{comma_if}
use Rattle.catalog_text.specs.Catalog.{list_text, with_commas}

some_before : (n : ℕ) → nat_lt 0 (suc n) ≡ true
some_before n = grind (arith, nat_tests)

commas_after : (later : Bool) (ts : List (List ℕ)) (t : List ℕ) → with_commas later (ts ++ t ∷ []) ≡ with_commas later ts ++ (comma_if (later || nat_lt 0 (length ts)) ++ t)
unfolding with_commas
commas_after later [] t = append-nil (comma_if later ++ t) ∙ ap (λ (b : Bool). comma_if b ++ t) (sym (or_false later))
commas_after later (x ∷ xs) t =
    ap (λ l. (comma_if later ++ x) ++ l) (commas_after true xs t)
    ∙ (sym (append_assoc (comma_if later ++ x) (with_commas true xs) (comma_if true ++ t))
    ∙ ap (λ (b : Bool). ((comma_if later ++ x) ++ with_commas true xs) ++ (comma_if b ++ t)) (sym (ap (λ (b : Bool). later || b) (some_before (length xs)) ∙ or_right later true refl)))

-- one more text behind some that have commas between
pub commas_more : (ts : List (List ℕ)) (t : List ℕ) → with_commas false (ts ++ t ∷ []) ≡ with_commas false ts ++ (comma_if (nat_lt 0 (length ts)) ++ t)
commas_more ts t = commas_after false ts t

-- what stands between brackets is a list
pub bracketed : (old open_ inner close_ : List ℕ) (ts : List (List ℕ)) → open_ ≡ old ++ 91 ∷ [] → inner ≡ open_ ++ with_commas false ts → close_ ≡ inner ++ 93 ∷ [] → close_ ≡ old ++ list_text ts
unfolding list_text
bracketed old open_ inner close_ ts opens holds closes =
    closes
    ∙ (ap (λ l. l ++ 93 ∷ []) (holds ∙ (ap (λ l. l ++ with_commas false ts) opens ∙ append_assoc old (91 ∷ []) (with_commas false ts)))
    ∙ append_assoc old (91 ∷ with_commas false ts) (93 ∷ []))
