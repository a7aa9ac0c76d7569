-- What is found of the things of a list has the numbers of its places, which rise; and it is found again by its name.
use Rattle.std.proofs.Common.{◌≡◌, ◌∙◌, ◌<◌, ◌≤◌, ◌+◌, ◌*◌, ◌⊎◌, ℕ, Bool, true, false, zero, suc, List, [], ◌∷◌, Option, Some, None, length, drop, refl, sym, ap, subst, arith, inl, inr}
use Rattle.std.specs.Prelude.{All, IfSome, option_and_then, slice_get, slice_index_or, nat_lt, ◌==◌, if◌then◌else◌}
use Rattle.std.specs.List.{AllPairs, cons_option}
use Rattle.std.proofs.lemmas.Bool.Decides.{nat_tests}
use Rattle.std.proofs.lemmas.List.Elements.{All-nil, All-cons, All-weaker}
use Rattle.std.proofs.lemmas.List.Kept.{AllPairs-cons}
use Rattle.std.proofs.lemmas.Option.{get_or_from_slice_get, slice_get-get_or, slice_get_within}
use Rattle.plan_base.specs.declared.ids.GoodId.{GoodId}
use Rattle.plan_base.specs.declared.ids.RecipeId.{RecipeId}
use Rattle.name_table.specs.Names.{AreDifferent, place_of}
use Rattle.name_table.proofs.NamesLemmas.{named_at, placed_at}
use Rattle.game_types.specs.declared.games.Game.{Game}
use Rattle.game_types.specs.declared.goods.Item.{Item}
use Rattle.game_types.specs.declared.machinery.Machine.{Machine}
use Rattle.game_types.specs.declared.recipes.Recipe.{Recipe}
use Rattle.game_types.specs.declared.recipes.Product.{Product}
use Rattle.game_types.specs.Lookups.{recipe_at}
use Rattle.rocket_launches.specs.declared.silos.Silo.{Silo}
use Rattle.rocket_launches.specs.Launches.{cargo_of, fixed_recipe, found_from, silo_fixed_to, silo_of, silo_with}
use Rattle.rocket_launches.proofs.Flights.{found_hold}

-- ---- what is found has the numbers of its places, which rise
module _ {A B : Type 0} (find : ℕ → A → Option B) (number : B → ℕ) (at : (k : ℕ) (x : A) → IfSome (find k x) (λ v. number v ≡ k)) where
  not_before : (n : ℕ) (xs : List A) → All (λ v. n ≤ number v) (found_from find n xs)
  unfolding found_from
  not_before n [] = All-nil (λ v. n ≤ number v)
  not_before n (x ∷ xs) =
      by_found (find n x) (at n x) (All-weaker (λ v. n + 1 ≤ number v) (λ v. n ≤ number v) (λ v h. omega (arith, h)) (found_from find (n + 1) xs) (not_before (n + 1) xs))
    where
      by_found : (found : Option B) → IfSome found (λ v. number v ≡ n) → All (λ v. n ≤ number v) (found_from find (n + 1) xs) → All (λ v. n ≤ number v) (cons_option found (found_from find (n + 1) xs))
      by_found None is rest = rest
      by_found (Some v) is rest = All-cons (λ v. n ≤ number v) v (found_from find (n + 1) xs) (omega (arith, is)) rest

  pub rising : (n : ℕ) (xs : List A) → AllPairs (λ v w. number v < number w) (found_from find n xs)
  unfolding found_from
  rising n [] = λ i j d before within. absurd (omega (arith, within))
  rising n (x ∷ xs) = by_found (find n x) (at n x) (not_before (n + 1) xs) (rising (n + 1) xs)
    where
      by_found : (found : Option B) → IfSome found (λ v. number v ≡ n) → All (λ v. n + 1 ≤ number v) (found_from find (n + 1) xs) → AllPairs (λ v w. number v < number w) (found_from find (n + 1) xs)
          → AllPairs (λ v w. number v < number w) (cons_option found (found_from find (n + 1) xs))
      by_found None is low rest = rest
      by_found (Some v) is low rest =
          AllPairs-cons (λ v w. number v < number w) v (found_from find (n + 1) xs) (All-weaker (λ w. n + 1 ≤ number w) (λ w. number v < number w) (λ w h. omega (arith, is, h)) (found_from find (n + 1) xs) low) rest

pub cargo_number : (k : ℕ) (item : Item) → IfSome (cargo_of k item) (λ cargo. cargo.0 ≡ k)
unfolding cargo_of
cargo_number k item = by_launch (length item.launch == 0)
  where
    by_launch : (b : Bool) → IfSome (if b then None else Some (record { 0 = k })) (λ (cargo : GoodId). cargo.0 ≡ k)
    by_launch true = tt
    by_launch false = refl

pub silo_number : (g : Game) (k : ℕ) (machine : Machine) → IfSome (silo_of g k machine) (λ silo. silo.machine.0 ≡ k)
unfolding silo_of
silo_number g k machine = by_parts (machine.parts == 0)
  where
    by_products : (recipe : Recipe) (products : List Product) → IfSome (silo_with (record { 0 = k }) machine.parts recipe products) (λ silo. silo.machine.0 ≡ k)
    by_products recipe [] = tt
    by_products recipe (first ∷ rest) = refl

    by_fixed : (fixed : Option RecipeId) → IfSome (silo_fixed_to g (record { 0 = k }) machine.parts fixed) (λ silo. silo.machine.0 ≡ k)
    by_fixed None = tt
    by_fixed (Some fixed) = by_products (recipe_at g fixed) (recipe_at g fixed).products

    by_parts : (b : Bool) → IfSome (if b then None else silo_fixed_to g (record { 0 = k }) machine.parts (fixed_recipe machine.kind)) (λ silo. silo.machine.0 ≡ k)
    by_parts true = tt
    by_parts false = by_fixed (fixed_recipe machine.kind)

-- ---- what is found of a thing stands somewhere
found_there : {A B : Type 0} (find : ℕ → A → Option B) (n : ℕ) (xs : List A) (k : ℕ) (x : A) (v : B) → slice_get xs k ≡ Some x → find (n + k) x ≡ Some v
    → (q : ℕ) × (slice_get (found_from find n xs) q ≡ Some v)
unfolding found_from
found_there find n [] k x v is found = absurd (cc)
found_there find n (y ∷ ys) zero x v is found = (0, ap (λ o. slice_get (cons_option o (found_from find (n + 1) ys)) 0) (ap (find n) (same y x is) ∙ ap (λ j. find j x) (none_more n) ∙ found))
  where
    none_more : (n : ℕ) → n ≡ n + 0
    none_more n = omega arith

    same : {A : Type 0} (y x : A) → Some y ≡ Some x → y ≡ x
    same y x e = cc
found_there {A = A} {B = B} find n (y ∷ ys) (suc k) x v is found =
    by_found (find n y) (found_there find (n + 1) ys k x v is (ap (λ j. find j x) (one_more n k) ∙ found))
  where
    one_more : (n k : ℕ) → n + 1 + k ≡ n + suc k
    one_more n k = omega arith

    by_found : (o : Option B) → ((q : ℕ) × (slice_get (found_from find (n + 1) ys) q ≡ Some v)) → (q : ℕ) × (slice_get (cons_option o (found_from find (n + 1) ys)) q ≡ Some v)
    by_found None rest = rest
    by_found (Some w) rest = (suc rest.0, rest.1)

-- ---- by names, of which no two are the same
module _ {A B : Type 0} (find : ℕ → A → Option B) (number : B → ℕ) (at : (k : ℕ) (x : A) → IfSome (find k x) (λ v. number v ≡ k))
    (things : List A) (d : A) (names : List (List ℕ)) (different : AreDifferent names) (long : length names ≡ length things) where
  abbrev named : List ℕ → Option B
  named name = option_and_then (λ n. find n (slice_index_or things n d)) (place_of names name)

  kept : All (λ v. find (number v) (slice_index_or things (number v) d) ≡ Some v) (found_from find 0 things)
  kept = found_hold find (λ v. find (number v) (slice_index_or things (number v) d) ≡ Some v) things (λ k x is. by_found k x is (find k x) refl (at k x)) 0 things refl
    where
      by_found : (k : ℕ) (x : A) → slice_get things k ≡ Some x → (o : Option B) → find k x ≡ o → IfSome o (λ v. number v ≡ k) → IfSome o (λ v. find (number v) (slice_index_or things (number v) d) ≡ Some v)
      by_found k x is None e h = tt
      by_found k x is (Some v) e h = ap (λ n. find n (slice_index_or things n d)) h ∙ ap (find k) (get_or_from_slice_get things k x d is) ∙ e

  within_names : All (λ v. number v < length names) (found_from find 0 things)
  within_names = found_hold find (λ v. number v < length names) things (λ k x is. by_found k x is (find k x) (at k x)) 0 things refl
    where
      by_found : (k : ℕ) (x : A) → slice_get things k ≡ Some x → (o : Option B) → IfSome o (λ v. number v ≡ k) → IfSome o (λ v. number v < length names)
      by_found k x is None h = tt
      by_found k x is (Some v) h = let inside = slice_get_within things k x is in omega (arith, h, inside, long)

  pub named_again : (q : ℕ) (v : B) → slice_get (found_from find 0 things) q ≡ Some v → named (slice_index_or names (number v) []) ≡ Some v
  named_again q v is =
      let inside = slice_get_within (found_from find 0 things) q v is in
      let there : slice_index_or (found_from find 0 things) q v ≡ v = get_or_from_slice_get (found_from find 0 things) q v v is in
      let below : number v < length names = subst (λ w. number w < length names) there (within_names q v inside) in
      ap (option_and_then (λ n. find n (slice_index_or things n d))) (placed_at names (slice_index_or names (number v) []) (number v) different (slice_get-get_or names (number v) [] below))
      ∙ subst (λ w. find (number w) (slice_index_or things (number w) d) ≡ Some w) there (kept q v inside)

  -- what a name finds is there, and has this name
  pub record Seat (name : List ℕ) (v : B) : Type 0 where
    pub place : ℕ
    pub there : slice_get (found_from find 0 things) place ≡ Some v
    pub name_is : slice_index_or names (number v) [] ≡ name

  pub seat : (name : List ℕ) (v : B) → named name ≡ Some v → Seat name v
  seat name v is = by_place (place_of names name) refl is
    where
      by_place : (o : Option ℕ) → place_of names name ≡ o → option_and_then (λ n. find n (slice_index_or things n d)) o ≡ Some v → Seat name v
      by_place None e found = absurd (cc)
      by_place (Some n) e found =
          let got = named_at names name n e in
          let inside = slice_get_within names n name got in
          let below : n < length things = omega (arith, inside, long) in
          let number_is : number v ≡ n = subst (λ (o : Option B). IfSome o (λ v. number v ≡ n)) found (at n (slice_index_or things n d)) in
          let one = found_there find 0 things n (slice_index_or things n d) v (slice_get-get_or things n d below) (ap (λ j. find j (slice_index_or things n d)) (none_less n) ∙ found) in
          record { place = one.0; there = one.1; name_is = ap (λ n. slice_index_or names n []) number_is ∙ get_or_from_slice_get names n name [] got }
        where
          none_less : (n : ℕ) → 0 + n ≡ n
          none_less n = omega arith
