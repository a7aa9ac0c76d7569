-- Numbers gathered from things.
use Rattle.std.proofs.Common.{◌≡◌, ◌∙◌, ◌<◌, ◌≤◌, ◌+◌, ◌++◌, ℕ, Bool, true, false, List, [], ◌∷◌, length, drop, get_or, refl, ap, sym, arith}
use Rattle.std.specs.Prelude.{map, ◌==◌, ◌||◌, ◌&&◌, if◌then◌else◌}
use Rattle.std.specs.Prelude.{slice_get}
use Rattle.std.specs.List.{list_any}
use Rattle.plan_base.proofs.Walks.{next, drop_all}
use Rattle.plan_base.proofs.Bools.{or_false}
use Rattle.game_types.specs.declared.recipes.Recipe.{Recipe}
use Rattle.depend_index.specs.Kinds.{has_category}
use Rattle.graph_store.specs.Lists.{is_among}

either_assoc : (a b c : Bool) → ((a || b) || c) ≡ (a || (b || c))
either_assoc true b c = refl
either_assoc false b c = refl

pub is_among-append : (xs ys : List ℕ) (k : ℕ) → is_among (xs ++ ys) k ≡ (is_among xs k || is_among ys k)
is_among-append [] ys k = refl
is_among-append (x ∷ xs) ys k = ap (λ b. (x == k) || b) (is_among-append xs ys k) ∙ sym (either_assoc (x == k) (is_among xs k) (is_among ys k))

-- the numbers so far, with those that are to come
pub record KeysSoFar {A : Type 0} (number : A → ℕ) (counts : A → Bool) (things : List A) (i : ℕ) (numbers : List ℕ) : Type 0 where
  pub each : (k : ℕ) → (is_among numbers k || list_any (λ x. (number x == k) && counts x) (drop i things)) ≡ list_any (λ x. (number x == k) && counts x) things

pub keys_first : {A : Type 0} (number : A → ℕ) (counts : A → Bool) (things : List A) (numbers : List ℕ) → numbers ≡ [] → KeysSoFar number counts things 0 numbers
keys_first number counts things numbers empty = record { each = λ k. ap (λ l. is_among l k || list_any (λ x. (number x == k) && counts x) things) empty }

put : (numbers new : List ℕ) (j k : ℕ) (rest : Bool) (b : Bool) → new ≡ (if b then numbers ++ j ∷ [] else numbers) → (is_among new k || rest) ≡ (is_among numbers k || (((j == k) && b) || rest))
put numbers new j k rest true is = ap (λ l. is_among l k || rest) is ∙ ap (λ b. b || rest) (is_among-append numbers (j ∷ []) k) ∙ either_assoc (is_among numbers k) (is_among (j ∷ []) k) rest ∙ ap (λ b. is_among numbers k || (b || rest)) (or_false (j == k) ∙ sym (both_true (j == k)))
  where
    both_true : (b : Bool) → (b && true) ≡ b
    both_true true = refl
    both_true false = refl
put numbers new j k rest false is = ap (λ l. is_among l k || rest) is ∙ ap (λ b. is_among numbers k || (b || rest)) (sym (both_false (j == k)))
  where
    both_false : (b : Bool) → (b && false) ≡ false
    both_false true = refl
    both_false false = refl

pub keys_more : {A : Type 0} (number : A → ℕ) (counts : A → Bool) (things : List A) (i : ℕ) (x : A) (numbers new : List ℕ) (b : Bool) → i < length things → x ≡ get_or things i x
    → counts x ≡ b → new ≡ (if b then numbers ++ number x ∷ [] else numbers) → KeysSoFar number counts things i numbers → KeysSoFar number counts things (i + 1) new
keys_more number counts things i x numbers new b within is passes are before = record {
  each = λ k.
      put numbers new (number x) k (list_any (λ x. (number x == k) && counts x) (drop (i + 1) things)) b are
      ∙ ap (λ c. is_among numbers k || (((number x == k) && c) || list_any (λ x. (number x == k) && counts x) (drop (i + 1) things))) (sym passes)
      ∙ ap (λ l. is_among numbers k || list_any (λ x. (number x == k) && counts x) l) (sym (next things i x within is)) ∙ before.each k;
}

pub keys_last : {A : Type 0} (number : A → ℕ) (counts : A → Bool) (things : List A) (i : ℕ) (numbers : List ℕ) → length things ≤ i → KeysSoFar number counts things i numbers → (k : ℕ) → is_among numbers k ≡ list_any (λ x. (number x == k) && counts x) things
keys_last number counts things i numbers end before k =
    sym (or_false (is_among numbers k)) ∙ ap (λ l. is_among numbers k || list_any (λ x. (number x == k) && counts x) l) (sym (drop_all things i end)) ∙ before.each k

-- the numbers of things are those that some thing has
pub is_among-map : {A : Type 0} (number : A → ℕ) → (things : List A) (k : ℕ) → is_among (map number things) k ≡ list_any (λ x. number x == k) things
is_among-map number [] k = refl
is_among-map number (x ∷ things) k = ap (λ b. (number x == k) || b) (is_among-map number things k)

-- a number that is there where its recipe is of the categories
pub fixed_key : (number : ℕ) (categories : List ℕ) (recipes : List Recipe) (numbers : List ℕ) (b : Bool) → b ≡ has_category categories (slice_get recipes number) → numbers ≡ (if b then number ∷ [] else [])
    → (k : ℕ) → is_among numbers k ≡ ((number == k) && has_category categories (slice_get recipes k))
fixed_key number categories recipes numbers b is are k = ap (λ l. is_among l k) are ∙ by_same b is (number == k) refl
  where
    by_same : (b : Bool) → b ≡ has_category categories (slice_get recipes number) → (same : Bool) → (number == k) ≡ same → is_among (if b then number ∷ [] else []) k ≡ ((number == k) && has_category categories (slice_get recipes k))
    by_same true is true same = let at : number ≡ k = grind (arith, same) in ap (λ c. c || false) same ∙ is ∙ ap (λ n. has_category categories (slice_get recipes n)) at ∙ ap (λ c. c && has_category categories (slice_get recipes k)) (sym same)
    by_same true is false same = ap (λ c. c || false) same ∙ ap (λ c. c && has_category categories (slice_get recipes k)) (sym same)
    by_same false is true same = let at : number ≡ k = grind (arith, same) in is ∙ ap (λ n. has_category categories (slice_get recipes n)) at ∙ ap (λ c. c && has_category categories (slice_get recipes k)) (sym same)
    by_same false is false same = ap (λ c. c && has_category categories (slice_get recipes k)) (sym same)
