-- Flights stand in the order of their silos and of their cargo.
use Rattle.std.proofs.Common.{◌≡◌, ◌∙◌, ◌<◌, ◌≤◌, ◌+◌, ◌*◌, ◌⊎◌, ℕ, Bool, true, false, suc, List, Option, Some, None, length, refl, sym, ap, arith, inl, inr}
use Rattle.std.specs.Prelude.{nat_lt, option_map, slice_get, slice_index_or, ◌==◌}
use Rattle.std.specs.List.{AllPairs}
use Rattle.std.proofs.Math.Nat.{mul-le-mul_right}
use Rattle.std.proofs.lemmas.Bool.Decides.{nat_tests}
use Rattle.std.proofs.lemmas.Option.{get_or_from_slice_get, slice_get-get_or, slice_get_within, same_Some}
use Rattle.plan_base.specs.declared.ids.GoodId.{GoodId}
use Rattle.game_types.specs.declared.games.Game.{Game}
use Rattle.rocket_launches.specs.declared.silos.Flight.{Flight}
use Rattle.rocket_launches.specs.declared.silos.Silo.{Silo}
use Rattle.rocket_launches.specs.Launches.{cargo_in, cargo_of, flight, flights, silo_of, silos_in}
use Rattle.rocket_launches.specs.Clashes.{is_before}
use Rattle.rocket_launches.proofs.Numbered.{cargo_number, rising, silo_number}
use Rattle.rocket_launches.proofs.Earliest.{before_first, not_itself, one_way}
use Rattle.rocket_launches.proofs.FlightPlaces.{Place, nth_flight, place_in}

crossed : (n a b c r s i j : ℕ) → b ≡ n + a → b ≤ c → i ≡ c + r → j ≡ a + s → s < n → i < j → ⊥
crossed n a b c r s i j is more first second small less = omega (arith, is, more, first, second, small, less)

one_row : (a c r s i j : ℕ) → a ≡ c → i ≡ a + r → j ≡ c + s → i < j → r < s
one_row a c r s i j same first second less = omega (arith, same, first, second, less)

next_row : (n p : ℕ) → suc p * n ≡ n + p * n
next_row n p = omega arith

row_order : (n q p r s i j : ℕ) → i ≡ q * n + r → j ≡ p * n + s → r < n → s < n → i < j → (q < p) ⊎ ((q ≡ p) × (r < s))
row_order n q p r s i j first second low small less = by_tests (nat_lt q p) (nat_lt p q) refl refl
  where
    by_tests : (a b : Bool) → nat_lt q p ≡ a → nat_lt p q ≡ b → (q < p) ⊎ ((q ≡ p) × (r < s))
    by_tests true b below above = inl (grind (arith, nat_tests, below))
    by_tests false true below above =
        let next : suc p ≤ q = grind (arith, nat_tests, above) in
        absurd (crossed n (p * n) (suc p * n) (q * n) r s i j (next_row n p) (mul-le-mul_right n next) first second small less)
    by_tests false false below above =
        let same : q ≡ p = grind (arith, nat_tests, below, above) in
        inr (same, one_row (q * n) (p * n) r s i j (ap (λ m. m * n) same) first second less)

ordered : {B : Type 0} (number : B → ℕ) (xs : List B) (i j : ℕ) (x y : B) → AllPairs (λ v w. number v < number w) xs → slice_get xs i ≡ Some x → slice_get xs j ≡ Some y → i < j → number x < number y
ordered number xs i j x y pairs first second less =
    let here = get_or_from_slice_get xs i x x first in
    let there = get_or_from_slice_get xs j y x second in
    let below = pairs i j x less (slice_get_within xs j y second) in
    let left : number (slice_index_or xs i x) ≡ number x = ap number here in
    let right : number (slice_index_or xs j x) ≡ number y = ap number there in
    omega (arith, below, left, right)

one_there : {B : Type 0} (xs : List B) (i j : ℕ) (x y : B) → slice_get xs i ≡ Some x → slice_get xs j ≡ Some y → i ≡ j → x ≡ y
one_there xs i j x y first second same = same_Some x y (sym first ∙ ap (slice_get xs) same ∙ second)

module _ (g : Game) where
  abbrev count : ℕ
  count = length (cargo_in g)

  -- where a silo and cargo that are there fly
  pub flies : (q r : ℕ) (silo : Silo) (cargo : GoodId) → slice_get (silos_in g) q ≡ Some silo → slice_get (cargo_in g) r ≡ Some cargo → slice_get (flights g) (q * count + r) ≡ Some (flight silo cargo)
  unfolding flights
  flies q r silo cargo here there =
      nth_flight flight (cargo_in g) cargo (silos_in g) q r (slice_get_within (cargo_in g) r cargo there)
      ∙ ap (option_map (λ s. flight s (slice_index_or (cargo_in g) r cargo))) here
      ∙ ap (λ c. Some (flight silo c)) (get_or_from_slice_get (cargo_in g) r cargo cargo there)

  -- and the silo and the cargo of a flight
  pub record Stands (k : ℕ) (one : Flight) : Type 0 where
    pub row : ℕ
    pub column : ℕ
    pub silo : slice_get (silos_in g) row ≡ Some one.silo
    pub cargo : slice_get (cargo_in g) column ≡ Some one.cargo
    pub is : k ≡ row * count + column

  place : (k : ℕ) → k < length (flights g) → Place (length (silos_in g)) count k
  unfolding flights
  place k within = place_in flight (cargo_in g) (silos_in g) k within

  pub stands : (k : ℕ) (one : Flight) → slice_get (flights g) k ≡ Some one → Stands k one
  stands k one at = by_place (place k (slice_get_within (flights g) k one at))
    where
      by_place : Place (length (silos_in g)) count k → Stands k one
      by_place found =
          let no_silo : Silo = record { machine = record { 0 = 0 }; category = 0; part = record { 0 = 0 }; parts = 0 } in
          let s = slice_index_or (silos_in g) found.silo no_silo in
          let c = slice_index_or (cargo_in g) found.cargo (record { 0 = 0 }) in
          let here = slice_get-get_or (silos_in g) found.silo no_silo found.silo_in in
          let there = slice_get-get_or (cargo_in g) found.cargo (record { 0 = 0 }) found.cargo_in in
          let same : flight s c ≡ one = same_Some (flight s c) one (sym (flies found.silo found.cargo s c here there) ∙ sym (ap (slice_get (flights g)) found.is) ∙ at) in
          record { row = found.silo; column = found.cargo; silo = here ∙ ap (λ (f : Flight). Some f.silo) same; cargo = there ∙ ap (λ (f : Flight). Some f.cargo) same; is = found.is }

  pub in_order : (i j : ℕ) (a b : Flight) → slice_get (flights g) i ≡ Some a → slice_get (flights g) j ≡ Some b → i < j → is_before a b ≡ true
  in_order i j a b first second less = by_rows (stands i a first) (stands j b second)
    where
      by_rows : Stands i a → Stands j b → is_before a b ≡ true
      by_rows here there =
          by_order (row_order count here.row there.row here.column there.column i j here.is there.is (slice_get_within (cargo_in g) here.column a.cargo here.cargo) (slice_get_within (cargo_in g) there.column b.cargo there.cargo) less)
        where
          by_order : (here.row < there.row) ⊎ ((here.row ≡ there.row) × (here.column < there.column)) → is_before a b ≡ true
          by_order (inl below) =
              before_first a b (inl (ordered (λ (silo : Silo). silo.machine.0) (silos_in g) here.row there.row a.silo b.silo (rising (silo_of g) (λ (silo : Silo). silo.machine.0) (silo_number g) 0 g.machines) here.silo there.silo below))
          by_order (inr (same, below)) =
              before_first a b (inr (
                ap (λ (silo : Silo). silo.machine.0) (one_there (silos_in g) here.row there.row a.silo b.silo here.silo there.silo same),
                ordered (λ (good : GoodId). good.0) (cargo_in g) here.column there.column a.cargo b.cargo (rising cargo_of (λ (good : GoodId). good.0) cargo_number 0 g.items) here.cargo there.cargo below,
              ))

  -- which of two different places comes first
  pub which_first : (i j : ℕ) (a b : Flight) → slice_get (flights g) i ≡ Some a → slice_get (flights g) j ≡ Some b → (a ≡ b → ⊥) → (i < j) ⊎ (j < i)
  which_first i j a b first second differ = by_tests (nat_lt i j) (nat_lt j i) refl refl
    where
      by_tests : (s t : Bool) → nat_lt i j ≡ s → nat_lt j i ≡ t → (i < j) ⊎ (j < i)
      by_tests true t below above = inl (grind (arith, nat_tests, below))
      by_tests false true below above = inr (grind (arith, nat_tests, above))
      by_tests false false below above = absurd (differ (one_there (flights g) i j a b first second (grind (arith, nat_tests, below, above))))
