-- The first name that is taken: where it stands, by which names are before it.
use Rattle.std.proofs.Common.{◌≡◌, ◌∙◌, ◌<◌, ◌≤◌, ◌+◌, ◌++◌, ◌⊎◌, ℕ, Bool, true, false, zero, suc, List, [], ◌∷◌, Option, Some, None, length, take, get_or, refl, sym, ap, subst, append_assoc, append-nil, arith, inl, inr}
use Rattle.std.specs.Prelude.{is_some, slice_get, slice_index_or, ◌||◌, if◌then◌else◌}
use Rattle.std.specs.Str.{bytes_eq}
use Rattle.std.proofs.lemmas.Grind.{common_steps}
use Rattle.std.proofs.lemmas.List.Folds.{list_any_at}
use Rattle.std.proofs.lemmas.Option.{get_or_from_slice_get, slice_get_within}
use Rattle.std.proofs.lemmas.Slice.Eq.{bytes_eq-Decides}
use Rattle.std.proofs.lemmas.Bool.{or_left, or_right}
use Rattle.name_table.specs.Names.{place_of}
use Rattle.name_table.proofs.NamesLemmas.{named_at}
use Rattle.rocket_launches.specs.Launches.{first_taken, is_taken}
use Rattle.rocket_launches.proofs.NameLemmas.{length_take, some_position}

pub place_some : (names : List (List ℕ)) (j : ℕ) (d name : List ℕ) → j < length names → slice_index_or names j d ≡ name → is_some (place_of names name) ≡ true
place_some names j d name within is = some_position (bytes_eq name) names ∙ list_any_at (bytes_eq name) names j d within ((bytes_eq-Decides name (slice_index_or names j d)).1 (sym is))

-- ---- whether the name of a place is taken by the names before it
abbrev hit : List (List ℕ) → List (List ℕ) → List (List ℕ) → ℕ → Bool
hit dumped earlier names k = is_taken dumped (earlier ++ take k names) (slice_index_or names k [])

shifted : (dumped earlier : List (List ℕ)) (name : List ℕ) (names : List (List ℕ)) (k : ℕ) → hit dumped (earlier ++ name ∷ []) names k ≡ hit dumped earlier (name ∷ names) (suc k)
shifted dumped earlier name names k = ap (λ before. is_taken dumped before (slice_index_or names k [])) (append_assoc earlier (name ∷ []) (take k names))

at_head : (dumped earlier : List (List ℕ)) (name : List ℕ) (names : List (List ℕ)) → is_taken dumped earlier name ≡ hit dumped earlier (name ∷ names) 0
at_head dumped earlier name names = ap (λ before. is_taken dumped before name) (sym (append-nil earlier))

one_longer : (earlier : List (List ℕ)) (name : List ℕ) (k : ℕ) → length (earlier ++ name ∷ []) + k ≡ length earlier + suc k
one_longer earlier name k = grind (arith, common_steps)

first_found : (dumped earlier names : List (List ℕ)) (k : ℕ) → k < length names → hit dumped earlier names k ≡ true → ((j : ℕ) → j < k → hit dumped earlier names j ≡ false)
    → first_taken dumped earlier names ≡ Some (length earlier + k)
unfolding first_taken
first_found dumped earlier [] k within is before = absurd (omega (arith, within))
first_found dumped earlier (name ∷ names) zero within is before =
    ap (λ b. if b then Some (length earlier) else first_taken dumped (earlier ++ name ∷ []) names) (at_head dumped earlier name names ∙ is) ∙ ap Some (same (length earlier))
  where
    same : (n : ℕ) → n ≡ n + 0
    same n = omega arith
first_found dumped earlier (name ∷ names) (suc k) within is before =
    ap (λ b. if b then Some (length earlier) else first_taken dumped (earlier ++ name ∷ []) names) (at_head dumped earlier name names ∙ before 0 (omega arith))
    ∙ first_found dumped (earlier ++ name ∷ []) names k (omega (arith, within)) (shifted dumped earlier name names k ∙ is) (λ j below. shifted dumped earlier name names j ∙ before (suc j) (omega (arith, below)))
    ∙ ap Some (one_longer earlier name k)

none_found : (dumped earlier names : List (List ℕ)) → ((j : ℕ) → j < length names → hit dumped earlier names j ≡ false) → first_taken dumped earlier names ≡ None
unfolding first_taken
none_found dumped earlier [] before = refl
none_found dumped earlier (name ∷ names) before =
    ap (λ b. if b then Some (length earlier) else first_taken dumped (earlier ++ name ∷ []) names) (at_head dumped earlier name names ∙ before 0 (omega arith))
    ∙ none_found dumped (earlier ++ name ∷ []) names (λ j below. shifted dumped earlier name names j ∙ before (suc j) (omega (arith, below)))

-- ---- the same in words: a recipe of the dump has the name, or one before has it
abbrev pub IsHeld : List (List ℕ) → List (List ℕ) → ℕ → Type 0
IsHeld dumped names k = (is_some (place_of dumped (slice_index_or names k [])) ≡ true) ⊎ ((j : ℕ) × (j < k) × (slice_index_or names j [] ≡ slice_index_or names k []))

take_get : {X : Type 0} (xs : List X) (k j : ℕ) (d : X) → j < k → slice_index_or (take k xs) j d ≡ slice_index_or xs j d
take_get [] zero j d below = refl
take_get [] (suc k) j d below = refl
take_get (x ∷ xs) zero j d below = absurd (omega (arith, below))
take_get (x ∷ xs) (suc k) zero d below = refl
take_get (x ∷ xs) (suc k) (suc j) d below = take_get xs k j d (omega (arith, below))

held_hit : (dumped names : List (List ℕ)) (k : ℕ) → k < length names → IsHeld dumped names k → hit dumped [] names k ≡ true
held_hit dumped names k within (inl there) = or_left (is_some (place_of dumped (slice_index_or names k []))) (is_some (place_of (take k names) (slice_index_or names k []))) there
held_hit dumped names k within (inr (j, below, same)) =
    or_right (is_some (place_of dumped (slice_index_or names k []))) (is_some (place_of (take k names) (slice_index_or names k [])))
    (place_some (take k names) j [] (slice_index_or names k []) (let long = length_take names k within in omega (arith, long, below)) (take_get names k j [] below ∙ same))

hit_held : (dumped names : List (List ℕ)) (k : ℕ) → k < length names → hit dumped [] names k ≡ true → IsHeld dumped names k
hit_held dumped names k within is = by_dumped (is_some (place_of dumped (slice_index_or names k []))) (place_of (take k names) (slice_index_or names k [])) refl refl is
  where
    by_dumped : (a : Bool) (o : Option ℕ) → is_some (place_of dumped (slice_index_or names k [])) ≡ a → place_of (take k names) (slice_index_or names k []) ≡ o → (a || is_some o) ≡ true → IsHeld dumped names k
    by_dumped true o there at both = inl there
    by_dumped false None there at both = absurd (cc)
    by_dumped false (Some j) there at both =
        let got = named_at (take k names) (slice_index_or names k []) j at in
        let long = length_take names k within in
        let inside = slice_get_within (take k names) j (slice_index_or names k []) got in
        let below : j < k = omega (arith, long, inside) in
        inr (j, below, sym (take_get names k j [] below) ∙ get_or_from_slice_get (take k names) j (slice_index_or names k []) [] got)

not_hit : (dumped names : List (List ℕ)) (k : ℕ) → k < length names → (IsHeld dumped names k → ⊥) → hit dumped [] names k ≡ false
not_hit dumped names k within never = by_test (hit dumped [] names k) refl
  where
    by_test : (t : Bool) → hit dumped [] names k ≡ t → t ≡ false
    by_test true is = absurd (never (hit_held dumped names k within is))
    by_test false is = refl

pub first_held : (dumped names : List (List ℕ)) (k : ℕ) → k < length names → IsHeld dumped names k → ((j : ℕ) → j < k → IsHeld dumped names j → ⊥) → first_taken dumped [] names ≡ Some k
first_held dumped names k within held before =
    first_found dumped [] names k within (held_hit dumped names k within held) (λ j below. not_hit dumped names j (omega (arith, below, within)) (before j below)) ∙ ap Some (same k)
  where
    same : (n : ℕ) → 0 + n ≡ n
    same n = omega arith

pub none_held : (dumped names : List (List ℕ)) → ((j : ℕ) → j < length names → IsHeld dumped names j → ⊥) → first_taken dumped [] names ≡ None
none_held dumped names before = none_found dumped [] names (λ j below. not_hit dumped names j below (before j below))
