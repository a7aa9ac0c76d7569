-- An element of a list changed in its place.
use Rattle.std.proofs.Common.{◌≡◌, ℕ, zero, suc, ◌<◌, ◌≤◌, List, [], ◌∷◌, Option, Some, None, length, get_or, set, refl, sym, ap, ◌∙◌, arith}
use Rattle.std.specs.Prelude.{slice_get}
use Rattle.std.proofs.lemmas.List.{get_or-set_same, set-get_or, set-set, length-set}
use Rattle.std.proofs.lemmas.Option.{slice_get-get_or, slice_get_past}
use Rattle.plan_base.specs.Places.{changed_at, with_at}

pub with_at-within : {A : Type 0} (f : A → A) (place : ℕ) (xs : List A) (d : A) → place < length xs → with_at f place xs ≡ set xs place (f (get_or xs place d))
unfolding with_at
with_at-within f place xs d within = ap (changed_at f place xs) (slice_get-get_or xs place d within)

pub with_at-past : {A : Type 0} (f : A → A) (place : ℕ) (xs : List A) → length xs ≤ place → with_at f place xs ≡ xs
unfolding with_at
with_at-past f place xs past = ap (changed_at f place xs) (slice_get_past xs place past)

-- ---- element by element
pub with_at-nil : {A : Type 0} (f : A → A) (place : ℕ) → with_at f place [] ≡ []
with_at-nil f place = with_at-past f place [] (omega arith)

pub with_at-zero : {A : Type 0} (f : A → A) (x : A) (xs : List A) → with_at f zero (x ∷ xs) ≡ f x ∷ xs
unfolding with_at
with_at-zero f x xs = refl

changed-suc : {A : Type 0} (f : A → A) (place : ℕ) (x : A) (xs : List A) (found : Option A) → changed_at f (suc place) (x ∷ xs) found ≡ x ∷ changed_at f place xs found
changed-suc f place x xs None = refl
changed-suc f place x xs (Some old) = refl

pub with_at-suc : {A : Type 0} (f : A → A) (place : ℕ) (x : A) (xs : List A) → with_at f (suc place) (x ∷ xs) ≡ x ∷ with_at f place xs
unfolding with_at
with_at-suc f place x xs = changed-suc f place x xs (slice_get xs place)

length-changed : {A : Type 0} (f : A → A) (place : ℕ) (xs : List A) (found : Option A) → length (changed_at f place xs found) ≡ length xs
length-changed f place xs None = refl
length-changed f place xs (Some old) = length-set xs place (f old)

pub length-with_at : {A : Type 0} (f : A → A) (place : ℕ) (xs : List A) → length (with_at f place xs) ≡ length xs
unfolding with_at
length-with_at f place xs = length-changed f place xs (slice_get xs place)

-- an element put is the list changed at its place, and the old one put again is the list before
pub put_at : {A : Type 0} (f : A → A) (place : ℕ) (xs : List A) (d y : A) → place < length xs → y ≡ f (get_or xs place d) → set xs place y ≡ with_at f place xs
put_at f place xs d y within e = ap (set xs place) e ∙ sym (with_at-within f place xs d within)

pub put_back : {A : Type 0} (f : A → A) (place : ℕ) (xs : List A) (d y : A) → place < length xs → f y ≡ get_or xs place d → with_at f place (set xs place y) ≡ xs
put_back f place xs d y within e =
    let inside : place < length (set xs place y) = rw length-set within in
    with_at-within f place (set xs place y) d inside
    ∙ ap (λ old. set (set xs place y) place (f old)) (get_or-set_same xs place y d within)
    ∙ set-set xs place y (f y)
    ∙ ap (set xs place) e
    ∙ set-get_or xs place d
