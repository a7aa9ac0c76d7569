-- Names of launches: which of them are taken, and how they are added one after another.
use Rattle.std.proofs.Common.{◌≡◌, ◌∙◌, ◌<◌, ◌≤◌, ◌+◌, ℕ, Bool, true, false, List, [], ◌∷◌, ◌++◌, Option, Some, None, length, take, drop, get_or, refl, sym, ap, append_assoc, append-nil, arith}
use Rattle.std.specs.Prelude.{is_some, ◌||◌, if◌then◌else◌}
use Rattle.std.specs.List.{list_any, position}
use Rattle.std.specs.Str.{bytes_eq}
use Rattle.std.proofs.lemmas.Grind.{common_steps}
use Rattle.std.proofs.lemmas.List.Folds.{list_any-append}
use Rattle.plan_base.proofs.Walks.{next, drop_all, take_next}
use Rattle.name_table.specs.Names.{place_of, with_name}
use Rattle.rocket_launches.specs.Launches.{first_taken, is_taken}

pub some_position : {X : Type 0} (p : X → Bool) (xs : List X) → is_some (position p xs) ≡ list_any p xs
some_position p [] = refl
some_position p (x ∷ xs) = let rest = some_position p xs in by_head (p x) refl rest
  where
    by_head : (b : Bool) → p x ≡ b → is_some (position p xs) ≡ list_any p xs → is_some (position p (x ∷ xs)) ≡ list_any p (x ∷ xs)
    by_head true passes rest = grind (arith, common_steps, passes, rest)
    by_head false fails rest = grind (arith, common_steps, fails, rest)

place_append : (xs ys : List (List ℕ)) (name : List ℕ) → is_some (place_of (xs ++ ys) name) ≡ is_taken xs ys name
place_append xs ys name =
    some_position (bytes_eq name) (xs ++ ys) ∙ list_any-append (bytes_eq name) xs ys
    ∙ sym (ap (λ b. b || is_some (place_of ys name)) (some_position (bytes_eq name) xs) ∙ ap (λ b. list_any (bytes_eq name) xs || b) (some_position (bytes_eq name) ys))

pub length_take : {X : Type 0} (xs : List X) (k : ℕ) → k < length xs → length (take k xs) ≡ k
length_take xs k within = grind (arith, common_steps)

pub taken_stop : (old names : List (List ℕ)) (k : ℕ) (x : List ℕ) → k < length names → x ≡ get_or names k x → is_some (place_of (old ++ take k names) x) ≡ true
    → first_taken old (take k names) (drop k names) ≡ Some k
unfolding first_taken
taken_stop old names k x within is there =
    let taken : is_taken old (take k names) x ≡ true = sym (place_append old (take k names) x) ∙ there in
    rw (next names k x within is, taken) (ap Some (length_take names k within))

pub taken_pass : (old names : List (List ℕ)) (k : ℕ) (x : List ℕ) → k < length names → x ≡ get_or names k x → is_some (place_of (old ++ take k names) x) ≡ false
    → first_taken old (take k names) (drop k names) ≡ first_taken old (take (k + 1) names) (drop (k + 1) names)
unfolding first_taken
taken_pass old names k x within is there =
    let free : is_taken old (take k names) x ≡ false = sym (place_append old (take k names) x) ∙ there in
    rw (next names k x within is, free) (ap (λ earlier. first_taken old earlier (drop (k + 1) names)) (sym (take_next names k x within is)))

pub taken_none : (old names : List (List ℕ)) (k : ℕ) → length names ≤ k → first_taken old (take k names) (drop k names) ≡ None
unfolding first_taken
taken_none old names k end = rw (drop_all names k end) refl

pub one_more : (old names now : List (List ℕ)) (k : ℕ) (x : List ℕ) → k < length names → x ≡ get_or names k x → now ≡ old ++ take k names → is_some (place_of now x) ≡ false
    → with_name now x ≡ old ++ take (k + 1) names
one_more old names now k x within is same free =
    ap (λ b. if b then now else now ++ x ∷ []) free ∙ ap (λ xs. xs ++ x ∷ []) same ∙ append_assoc old (take k names) (x ∷ []) ∙ ap (λ xs. old ++ xs) (sym (take_next names k x within is))

pub all_added : (old names now : List (List ℕ)) (k : ℕ) → length names ≤ k → now ≡ old ++ take k names → now ≡ old ++ names
all_added old names now k end same = same ∙ ap (λ xs. old ++ xs) (grind (arith, common_steps, end))
