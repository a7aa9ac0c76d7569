-- Where the flights of each silo stand among all.
use Rattle.std.proofs.Common.{◌≡◌, ◌∙◌, ◌<◌, ◌≤◌, ◌+◌, ◌-◌, ◌*◌, ◌/◌, ◌%◌, ◌++◌, ℕ, Bool, true, false, zero, suc, List, [], ◌∷◌, Some, None, length, map, refl, sym, ap, arith}
use Rattle.std.specs.Prelude.{◌==◌, nat_lt, option_map, slice_get, slice_index_or}
use Rattle.std.specs.List.{flat_map}
use Rattle.std.proofs.Math.Nat.{mod-lt}
use Rattle.std.proofs.lemmas.Nat.{div-add-mod'}
use Rattle.plan_base.specs.declared.ids.GoodId.{GoodId}
use Rattle.game_types.specs.declared.games.Game.{Game}
use Rattle.rocket_launches.specs.declared.silos.Flight.{Flight}
use Rattle.rocket_launches.specs.declared.silos.Silo.{Silo}
use Rattle.rocket_launches.specs.Launches.{cargo_in, flight, flights, flights_of, silos_in}
use Rattle.std.proofs.lemmas.Option.{slice_get_past, slice_get-map, slice_get-get_or}
use Rattle.std.proofs.lemmas.Bool.Decides.{nat_tests}
use Rattle.std.proofs.lemmas.List.{length-append, length-map}

get_before : {F : Type 0} (xs ys : List F) (k : ℕ) → k < length xs → slice_get (xs ++ ys) k ≡ slice_get xs k
get_before [] ys k within = absurd (omega (arith, within))
get_before (x ∷ xs) ys zero within = refl
get_before (x ∷ xs) ys (suc k) within = get_before xs ys k (omega (arith, within))

get_behind : {F : Type 0} (xs ys : List F) (k : ℕ) → slice_get (xs ++ ys) (length xs + k) ≡ slice_get ys k
get_behind [] ys k = ap (slice_get ys) (omega arith)
get_behind (x ∷ xs) ys k = ap (slice_get (x ∷ (xs ++ ys))) (one_less (length xs)) ∙ get_behind xs ys k
  where
    one_less : (n : ℕ) → suc n + k ≡ suc (n + k)
    one_less n = omega arith

-- the flight of a place within the flights of a silo
pub nth_flight : {S C F : Type 0} (f : S → C → F) (cargo : List C) (d : C) (silos : List S) (q r : ℕ) → r < length cargo
    → slice_get (flat_map (λ s. map (f s) cargo) silos) (q * length cargo + r) ≡ option_map (λ s. f s (slice_index_or cargo r d)) (slice_get silos q)
nth_flight f cargo d [] q r within = refl
nth_flight f cargo d (s ∷ silos) zero r within =
    ap (slice_get (map (f s) cargo ++ flat_map (λ s. map (f s) cargo) silos)) (first (length cargo) r)
    ∙ get_before (map (f s) cargo) (flat_map (λ s. map (f s) cargo) silos) r (let l = length-map cargo (f s) in omega (arith, l, within))
    ∙ slice_get-map (f s) cargo r ∙ ap (option_map (f s)) (slice_get-get_or cargo r d within)
  where
    first : (n r : ℕ) → 0 * n + r ≡ r
    first n r = omega arith
nth_flight f cargo d (s ∷ silos) (suc q) r within =
    ap (slice_get (map (f s) cargo ++ flat_map (λ s. map (f s) cargo) silos)) (let l = length-map cargo (f s) in step (length cargo) (length (map (f s) cargo)) q r l)
    ∙ get_behind (map (f s) cargo) (flat_map (λ s. map (f s) cargo) silos) (q * length cargo + r)
    ∙ nth_flight f cargo d silos q r within
  where
    step : (n m q r : ℕ) → m ≡ n → suc q * n + r ≡ m + (q * n + r)
    step n m q r e = omega (arith, e)

-- what stands at a place: the flight of which silo with which cargo
pub record Place (silos many k : ℕ) : Type 0 where
  pub silo : ℕ
  pub cargo : ℕ
  pub silo_in : silo < silos
  pub cargo_in : cargo < many
  pub is : k ≡ silo * many + cargo

pub place_in : {S C F : Type 0} (f : S → C → F) (cargo : List C) (silos : List S) (k : ℕ) → k < length (flat_map (λ s. map (f s) cargo) silos) → Place (length silos) (length cargo) k
place_in f cargo [] k within = absurd (omega (arith, within))
place_in {S = S} f cargo (s ∷ silos) k within = by_test (nat_lt k (length cargo)) refl (λ inside. place_in f cargo silos (k - length cargo) inside)
  where
    as_long : length (map (f s) cargo ++ flat_map (λ s. map (f s) cargo) silos) ≡ length cargo + length (flat_map (λ s. map (f s) cargo) silos)
    as_long = length-append (map (f s) cargo) (flat_map (λ s. map (f s) cargo) silos) ∙ ap (λ n. n + length (flat_map (λ s. map (f s) cargo) silos)) (length-map cargo (f s))

    later : (n q r : ℕ) → n ≤ k → k - n ≡ q * n + r → k ≡ suc q * n + r
    later n q r below is = omega (arith, below, is)

    by_test : (b : Bool) → nat_lt k (length cargo) ≡ b → (k - length cargo < length (flat_map (λ s. map (f s) cargo) silos) → Place (length silos) (length cargo) (k - length cargo)) → Place (suc (length silos)) (length cargo) k
    by_test true test rest = record { silo = 0; cargo = k; silo_in = omega arith; cargo_in = grind (arith, nat_tests, test); is = omega arith }
    by_test false test rest =
        let below : length cargo ≤ k = grind (arith, nat_tests, test) in
        let found = rest (let long = as_long in omega (arith, long, below, within)) in
        let silo_in = found.silo_in in
        record { silo = suc found.silo; cargo = found.cargo; silo_in = omega (arith, silo_in); cargo_in = found.cargo_in; is = later (length cargo) found.silo found.cargo below found.is }

-- ---- the flight of a place
pub flight_there : (silos : List Silo) (cargo : List GoodId) (place : ℕ) (d : GoodId) (silo : Silo) → 0 < length cargo → slice_get silos (place / length cargo) ≡ Some silo
    → Some (flight silo (slice_index_or cargo (place % length cargo) d)) ≡ slice_get (flights_of silos cargo) place
flight_there silos cargo place d silo some is =
    sym (
    ap (slice_get (flights_of silos cargo)) (sym (div-add-mod' place (length cargo)))
    ∙ nth_flight flight cargo d silos (place / length cargo) (place % length cargo) (mod-lt place some)
    ∙ ap (option_map (λ s. flight s (slice_index_or cargo (place % length cargo) d))) is)

pub flight_past : (silos : List Silo) (cargo : List GoodId) (place : ℕ) → 0 < length cargo → slice_get silos (place / length cargo) ≡ None → None ≡ slice_get (flights_of silos cargo) place
flight_past silos cargo place some is =
    sym (
    ap (slice_get (flights_of silos cargo)) (sym (div-add-mod' place (length cargo)))
    ∙ nth_flight flight cargo (record { 0 = 0 }) silos (place / length cargo) (place % length cargo) (mod-lt place some)
    ∙ ap (option_map (λ s. flight s (slice_index_or cargo (place % length cargo) (record { 0 = 0 })))) is)

pub no_flights : (silos : List Silo) (cargo : List GoodId) (place : ℕ) → length cargo ≡ 0 → None ≡ slice_get (flights_of silos cargo) place
no_flights silos [] place is = sym (ap (λ (xs : List Flight). slice_get xs place) (none silos))
  where
    none : (silos : List Silo) → flights_of silos [] ≡ []
    none [] = refl
    none (silo ∷ silos) = none silos
no_flights silos (good ∷ cargo) place is = absurd (omega (arith, is))

pub made_flights : (g : Game) (silos : List Silo) (cargo : List GoodId) → silos ≡ silos_in g → cargo ≡ cargo_in g → flights_of silos cargo ≡ flights g
unfolding flights
made_flights g silos cargo is are = ap (λ (xs : List Silo). flights_of xs cargo) is ∙ ap (flights_of (silos_in g)) are

-- ---- what looking tells
pub silo_there : (silos : List Silo) (place : ℕ) (silo : Silo) → true ≡ nat_lt place (length silos) → silo ≡ slice_index_or silos place silo → slice_get silos place ≡ Some silo
silo_there silos place silo within is = slice_get-get_or silos place silo (grind (arith, nat_tests, within)) ∙ ap Some (sym is)

pub silos_past : (silos : List Silo) (place : ℕ) → false ≡ nat_lt place (length silos) → slice_get silos place ≡ None
silos_past silos place past = slice_get_past silos place (grind (arith, nat_tests, past))

pub some_cargo : (count : ℕ) → false ≡ (count == 0) → 0 < count
some_cargo count some = grind (arith, nat_tests, some)
