-- A test that fails for one of the first elements fails for the list.
use Rattle.std.proofs.Common.{◌≡◌, ℕ, ◌+◌, ◌<◌, Bool, false, List, ◌&&◌, length, take, drop, get_or, sym, ◌∙◌, ap}
use Rattle.std.specs.List.{list_all}
use Rattle.std.proofs.lemmas.List.Folds.{list_all-append, list_all_more}
use Rattle.std.proofs.lemmas.List.{take-append-drop}

pub fails_before : {X : Type 0} (p : X → Bool) (xs : List X) (i : ℕ) → list_all p (take i xs) ≡ false → list_all p xs ≡ false
fails_before p xs i e =
    ap (list_all p) (sym (take-append-drop i xs))
    ∙ list_all-append p (take i xs) (drop i xs)
    ∙ ap (λ b. b && list_all p (drop i xs)) e

-- a tells of the elements before the place i, and b of the one there
pub fails_by : {X : Type 0} (p : X → Bool) (xs : List X) (i : ℕ) (d : X) (a b : Bool) → i < length xs → a ≡ list_all p (take i xs) → b ≡ p (get_or xs i d) → (a && b) ≡ false → list_all p xs ≡ false
fails_by p xs i d a b lt before here e =
    fails_before
    p
    xs
    (i + 1)
    (list_all_more p xs i d lt ∙ sym (ap (λ c. c && p (get_or xs i d)) before) ∙ sym (ap (λ c. a && c) here) ∙ e)
