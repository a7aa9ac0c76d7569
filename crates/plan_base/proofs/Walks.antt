-- Loops that go through a list: what is left of it at each step, and what was found so far.
use Rattle.std.proofs.Common.{◌≡◌, ◌∙◌, ◌<◌, ◌≤◌, ◌+◌, ℕ, List, [], ◌∷◌, ◌++◌, Option, Some, None, length, drop, take, get_or, map, sym, ap, append_assoc, append-nil}
use Rattle.std.specs.List.{cons_option, filter_map, flat_map}
use Rattle.std.proofs.lemmas.List.{drop_more, take_more, drop_all as nothing_left}

-- ---- what is left, and what was passed
pub next : {X : Type 0} (xs : List X) (k : ℕ) (x : X) → k < length xs → x ≡ get_or xs k x → drop k xs ≡ x ∷ drop (k + 1) xs
next xs k x within is = drop_more xs k x within ∙ ap (λ y. y ∷ drop (k + 1) xs) (sym is)

pub drop_all : {X : Type 0} (xs : List X) (k : ℕ) → length xs ≤ k → drop k xs ≡ []
drop_all xs k end = nothing_left k xs end

pub take_next : {X : Type 0} (xs : List X) (k : ℕ) (x : X) → k < length xs → x ≡ get_or xs k x → take (k + 1) xs ≡ take k xs ++ x ∷ []
take_next xs k x within is = take_more xs k x within ∙ ap (λ y. take k xs ++ y ∷ []) (sym is)

-- ---- one for each element
pub map_next : {A B : Type 0} (f : A → B) (k : ℕ) (found : List B) (xs : List A) (x : A) → k < length xs → x ≡ get_or xs k x → found ++ map f (drop k xs) ≡ (found ++ f x ∷ []) ++ map f (drop (k + 1) xs)
map_next f k found xs x within is = ap (λ ys. found ++ map f ys) (next xs k x within is) ∙ sym (append_assoc found (f x ∷ []) (map f (drop (k + 1) xs)))

pub map_end : {A B : Type 0} (f : A → B) (k : ℕ) (found : List B) (xs : List A) → length xs ≤ k → found ++ map f (drop k xs) ≡ found
map_end f k found xs end = ap (λ ys. found ++ map f ys) (drop_all xs k end) ∙ append-nil found

-- ---- at most one for each element
pub before_rest : {B : Type 0} (found : List B) (one : Option B) (rest : List B) → found ++ cons_option one rest ≡ (found ++ cons_option one []) ++ rest
before_rest found None rest = ap (λ xs. xs ++ rest) (sym (append-nil found))
before_rest found (Some value) rest = sym (append_assoc found (value ∷ []) rest)

pub found_next : {A B : Type 0} (find : A → Option B) (k : ℕ) (found : List B) (xs : List A) (x : A) → k < length xs → x ≡ get_or xs k x
    → found ++ filter_map find (drop k xs) ≡ (found ++ cons_option (find x) []) ++ filter_map find (drop (k + 1) xs)
found_next find k found xs x within is = ap (λ ys. found ++ filter_map find ys) (next xs k x within is) ∙ before_rest found (find x) (filter_map find (drop (k + 1) xs))

pub found_end : {A B : Type 0} (find : A → Option B) (k : ℕ) (found : List B) (xs : List A) → length xs ≤ k → found ++ filter_map find (drop k xs) ≡ found
found_end find k found xs end = ap (λ ys. found ++ filter_map find ys) (drop_all xs k end) ∙ append-nil found

-- ---- several for each element
pub flat_next : {A B : Type 0} (f : A → List B) (k : ℕ) (found : List B) (xs : List A) (x : A) → k < length xs → x ≡ get_or xs k x → found ++ flat_map f (drop k xs) ≡ (found ++ f x) ++ flat_map f (drop (k + 1) xs)
flat_next f k found xs x within is = ap (λ ys. found ++ flat_map f ys) (next xs k x within is) ∙ sym (append_assoc found (f x) (flat_map f (drop (k + 1) xs)))

pub flat_end : {A B : Type 0} (f : A → List B) (k : ℕ) (found : List B) (xs : List A) → length xs ≤ k → found ++ flat_map f (drop k xs) ≡ found
flat_end f k found xs end = ap (λ ys. found ++ flat_map f ys) (drop_all xs k end) ∙ append-nil found
