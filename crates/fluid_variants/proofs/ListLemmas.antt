-- Temperatures below one, at the front of a list.
use Rattle.std.proofs.Common.{◌≡◌, ◌∙◌, ◌<◌, ◌≤◌, ◌+◌, ℕ, Bool, true, false, List, [], ◌∷◌, ◌++◌, length, take, drop, get_or, refl, sym, ap, subst, arith, zero, suc, inl, inr, ◌⊎◌}
use Rattle.std.specs.List.{insert, prefix_len}
use Rattle.std.proofs.lemmas.Grind.{common_steps}
use Rattle.std.specs.Prelude.{if◌then◌else◌, Some, None, slice_get}
use Rattle.std.proofs.lemmas.Option.{get_or_from_slice_get, slice_get_cases, slice_get_within}
use Rattle.plan_base.proofs.Walks.{next, drop_all}
use Rattle.fractions.specs.Fraction.{Fraction}
use Rattle.game_types.specs.Temperatures.{is_cooler}
use Rattle.fluid_variants.specs.Temperatures.{with_temperature}

pub front_stops : {X : Type 0} (p : X → Bool) (xs : List X) (k : ℕ) (x : X) → k < length xs → x ≡ get_or xs k x → p x ≡ false → prefix_len p (drop k xs) ≡ 0
front_stops p xs k x within is fails = rw (next xs k x within is) (grind (arith, common_steps, fails))

pub front_passes : {X : Type 0} (p : X → Bool) (xs : List X) (k : ℕ) (x : X) → k < length xs → x ≡ get_or xs k x → p x ≡ true → prefix_len p (drop k xs) ≡ 1 + prefix_len p (drop (k + 1) xs)
front_passes p xs k x within is passes = rw (next xs k x within is) (grind (arith, common_steps, passes))

pub front_ends : {X : Type 0} (p : X → Bool) (xs : List X) (k : ℕ) → length xs ≤ k → prefix_len p (drop k xs) ≡ 0
front_ends p xs k end = rw (drop_all xs k end) refl

-- ---- a temperature more: behind those that are cooler, unless it is there
abbrev front : Fraction → List Fraction → ℕ
front at list = prefix_len (λ lower. is_cooler lower at) list

front_cons : (at x : Fraction) (xs : List Fraction) (b : Bool) → is_cooler x at ≡ b → front at (x ∷ xs) ≡ (if b then 1 + front at xs else 0)
front_cons at x xs true is = rw is refl
front_cons at x xs false is = rw is refl

pub put_last : (at : Fraction) → (list : List Fraction) → prefix_len (λ lower. is_cooler lower at) list ≡ length list → with_temperature at list ≡ list ++ at ∷ []
unfolding with_temperature
put_last at [] all = refl
put_last at (x ∷ xs) all = by_head (is_cooler x at) refl (λ same. put_last at xs same)
  where
    by_head : (b : Bool) → is_cooler x at ≡ b → (front at xs ≡ length xs → with_temperature at xs ≡ xs ++ at ∷ []) → with_temperature at (x ∷ xs) ≡ (x ∷ xs) ++ at ∷ []
    by_head true is later = rw is (ap (λ rest. x ∷ rest) (later (let step = front_cons at x xs true is in omega (arith, step, all))))
    by_head false is later = absurd (let step = front_cons at x xs false is in omega (arith, step, all))

pub put_between : (at d : Fraction) → (list : List Fraction) (k : ℕ) → k ≡ prefix_len (λ lower. is_cooler lower at) list → k < length list → is_cooler at (get_or list k d) ≡ true → with_temperature at list ≡ take k list ++ at ∷ drop k list
unfolding with_temperature
put_between at d [] k counted within cooler = absurd (omega (arith, within))
put_between at d (x ∷ xs) zero counted within cooler = by_head (is_cooler x at) refl
  where
    by_head : (b : Bool) → is_cooler x at ≡ b → with_temperature at (x ∷ xs) ≡ at ∷ x ∷ xs
    by_head true is = absurd (let step = front_cons at x xs true is in omega (arith, step, counted))
    by_head false is = rw (is, cooler) refl
put_between at d (x ∷ xs) (suc j) counted within cooler = by_head (is_cooler x at) refl (λ same. put_between at d xs j same (omega (arith, within)) cooler)
  where
    by_head : (b : Bool) → is_cooler x at ≡ b → (j ≡ front at xs → with_temperature at xs ≡ take j xs ++ at ∷ drop j xs) → with_temperature at (x ∷ xs) ≡ x ∷ (take j xs ++ at ∷ drop j xs)
    by_head true is later = rw is (ap (λ rest. x ∷ rest) (later (let step = front_cons at x xs true is in omega (arith, step, counted))))
    by_head false is later = absurd (let step = front_cons at x xs false is in omega (arith, step, counted))

pub put_nothing : (at d : Fraction) → (list : List Fraction) (k : ℕ) → k ≡ prefix_len (λ lower. is_cooler lower at) list → k < length list → is_cooler at (get_or list k d) ≡ false → list ≡ with_temperature at list
unfolding with_temperature
put_nothing at d [] k counted within cooler = absurd (omega (arith, within))
put_nothing at d (x ∷ xs) zero counted within cooler = by_head (is_cooler x at) refl
  where
    by_head : (b : Bool) → is_cooler x at ≡ b → x ∷ xs ≡ with_temperature at (x ∷ xs)
    by_head true is = absurd (let step = front_cons at x xs true is in omega (arith, step, counted))
    by_head false is = rw (is, cooler) refl
put_nothing at d (x ∷ xs) (suc j) counted within cooler = by_head (is_cooler x at) refl (λ same. put_nothing at d xs j same (omega (arith, within)) cooler)
  where
    by_head : (b : Bool) → is_cooler x at ≡ b → (j ≡ front at xs → xs ≡ with_temperature at xs) → x ∷ xs ≡ with_temperature at (x ∷ xs)
    by_head true is later = rw is (ap (λ rest. x ∷ rest) (later (let step = front_cons at x xs true is in omega (arith, step, counted))))
    by_head false is later = absurd (let step = front_cons at x xs false is in omega (arith, step, counted))

-- the same by what stands at the place
pub put_end : (at : Fraction) (list : List Fraction) (k : ℕ) → k ≡ prefix_len (λ lower. is_cooler lower at) list → k ≤ length list → slice_get list k ≡ None → with_temperature at list ≡ list ++ at ∷ []
put_end at list k counted within none = put_last at list (sym counted ∙ by_cases (slice_get_cases list k).1)
  where
    by_cases : ((x : Fraction) × (k < length list) × (slice_get list k ≡ Some x) × (get_or list k x ≡ x)) ⊎ ((length list ≤ k) × (slice_get list k ≡ None)) → k ≡ length list
    by_cases (inl (x, inside, found, same)) = absurd (cc)
    by_cases (inr (past, same)) = omega (arith, past, within)

pub put_before : (at next : Fraction) (list : List Fraction) (k : ℕ) → k ≡ prefix_len (λ lower. is_cooler lower at) list → slice_get list k ≡ Some next → is_cooler at next ≡ true → with_temperature at list ≡ insert list k at
put_before at next list k counted is cooler =
    put_between at next list k counted (slice_get_within list k next is) (subst (λ (x : Fraction). is_cooler at x ≡ true) (sym (get_or_from_slice_get list k next next is)) cooler)

pub put_there : (at next : Fraction) (list : List Fraction) (k : ℕ) → k ≡ prefix_len (λ lower. is_cooler lower at) list → slice_get list k ≡ Some next → is_cooler at next ≡ false → list ≡ with_temperature at list
put_there at next list k counted is cooler =
    put_nothing at next list k counted (slice_get_within list k next is) (subst (λ (x : Fraction). is_cooler at x ≡ false) (sym (get_or_from_slice_get list k next next is)) cooler)
