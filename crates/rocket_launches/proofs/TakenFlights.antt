-- The earliest flight of a taken name, by what names are made of, is the first whose name is taken.
use Rattle.std.proofs.Common.{◌≡◌, ◌∙◌, ◌<◌, ◌+◌, ◌-◌, ◌++◌, ◌⊎◌, ℕ, Bool, true, false, List, [], ◌∷◌, Option, Some, None, length, take, drop, map, ◌*◌, refl, sym, ap, subst, append_assoc, arith, inl, inr, eq-eqb, eqb-true}
use Rattle.std.specs.Prelude.{IfSome, codes, eqb, is_some, option_and_then, option_map, slice_get, slice_index_or, ◌==◌, if◌then◌else◌}
use Rattle.std.specs.List.{starts_with}
use Rattle.std.proofs.lemmas.Bool.Decides.{Decides-eqb}
use Rattle.std.proofs.lemmas.Grind.{common_steps}
use Rattle.std.proofs.lemmas.List.{length-map}
use Rattle.std.proofs.lemmas.Option.{get_or_from_slice_get, slice_get-get_or, slice_get-map, slice_get_within}
use Rattle.std.proofs.lemmas.Slice.Eq.{starts_is}
use Rattle.plan_base.specs.declared.ids.GoodId.{GoodId}
use Rattle.name_table.specs.Names.{AreDifferent, place_of}
use Rattle.name_table.proofs.NamesLemmas.{named_at}
use Rattle.game_types.specs.Lookups.{item_at, machine_at, no_item, no_machine}
use Rattle.game_types.specs.Sound.{IsSound}
use Rattle.game_types.specs.declared.games.Game.{Game}
use Rattle.rocket_launches.specs.declared.silos.Flight.{Flight}
use Rattle.rocket_launches.specs.declared.silos.Silo.{Silo}
use Rattle.rocket_launches.specs.Launches.{begins_as_launch, cargo_in, cargo_of, first_taken, flight, flight_taken, flights, launch_name, name_at, silo_of, silos_in}
use Rattle.rocket_launches.specs.Clashes.{cargo_named, clash_cut, clash_of, clash_with, dumped_flight, earliest_taken, ends_with, flight_cut, flight_named, is_before, later_of, later_with, least_below, least_in, silo_named}
use Rattle.rocket_launches.proofs.Clashing.{dumped_some, with_found, with_start}
use Rattle.rocket_launches.proofs.Cuts.{TwoCuts, colon_cut, cut_at, drop_cut, drop_front, never_longer, take_cut, two_cuts, within_cut}
use Rattle.rocket_launches.proofs.Earliest.{Covers, below_covers, below_holds, in_covers, in_holds, not_itself, one_way, sooner_covers, sooner_holds}
use Rattle.rocket_launches.proofs.FirstTaken.{IsHeld, first_held, none_held, place_some}
use Rattle.rocket_launches.proofs.FlightOrder.{Stands, flies, in_order, stands, which_first}
use Rattle.rocket_launches.proofs.Numbered.{Seat, cargo_number, named_again, seat, silo_number}

module _ (g : Game) (sound : IsSound g) (machines : AreDifferent g.machine_names) (items : AreDifferent g.item_names) where
  abbrev silo_number_of : Silo → ℕ
  silo_number_of silo = silo.machine.0

  abbrev cargo_number_of : GoodId → ℕ
  cargo_number_of cargo = cargo.0

  abbrev silo_name : Silo → List ℕ
  silo_name silo = name_at g.machine_names silo.machine.0

  abbrev cargo_name : GoodId → List ℕ
  cargo_name cargo = name_at g.item_names cargo.0

  -- ---- silos and cargo by their names
  silo_again : (q : ℕ) (silo : Silo) → slice_get (silos_in g) q ≡ Some silo → silo_named g (silo_name silo) ≡ Some silo
  unfolding silo_named machine_at
  silo_again q silo is = named_again (silo_of g) silo_number_of (silo_number g) g.machines no_machine g.machine_names machines sound.machine_names q silo is

  cargo_again : (r : ℕ) (cargo : GoodId) → slice_get (cargo_in g) r ≡ Some cargo → cargo_named g (cargo_name cargo) ≡ Some cargo
  unfolding cargo_named item_at
  cargo_again r cargo is = named_again cargo_of cargo_number_of cargo_number g.items no_item g.item_names items sound.item_names r cargo is

  abbrev SiloSeat : List ℕ → Silo → Type 0
  SiloSeat = Seat (silo_of g) silo_number_of (silo_number g) g.machines no_machine g.machine_names machines sound.machine_names

  abbrev CargoSeat : List ℕ → GoodId → Type 0
  CargoSeat = Seat cargo_of cargo_number_of cargo_number g.items no_item g.item_names items sound.item_names

  silo_seat : (name : List ℕ) (silo : Silo) → silo_named g name ≡ Some silo → SiloSeat name silo
  unfolding silo_named machine_at
  silo_seat name silo is = seat (silo_of g) silo_number_of (silo_number g) g.machines no_machine g.machine_names machines sound.machine_names name silo is

  cargo_seat : (name : List ℕ) (cargo : GoodId) → cargo_named g name ≡ Some cargo → CargoSeat name cargo
  unfolding cargo_named item_at
  cargo_seat name cargo is = seat cargo_of cargo_number_of cargo_number g.items no_item g.item_names items sound.item_names name cargo is

  -- ---- the names of launches
  abbrev names : List (List ℕ)
  names = map (launch_name g) (flights g)

  name_there : (k : ℕ) (one : Flight) → slice_get (flights g) k ≡ Some one → slice_index_or names k [] ≡ launch_name g one
  name_there k one at = get_or_from_slice_get names k (launch_name g one) [] (slice_get-map (launch_name g) (flights g) k ∙ ap (option_map (launch_name g)) at)

  name_made : (one : Flight) → launch_name g one ≡ codes "launch:" ++ (silo_name one.silo ++ (58 ∷ cargo_name one.cargo))
  unfolding launch_name
  name_made one = refl

  -- a flight that stands somewhere and has a name that is taken
  record Known (one : Flight) : Type 0 where
    place : ℕ
    there : slice_get (flights g) place ≡ Some one
    held : IsHeld g.recipe_names names place

  -- ---- what is found has a name that is taken
  pair_known : (number : ℕ) (text before behind : List ℕ) (silo : Silo) (cargo : GoodId) → slice_get g.recipe_names number ≡ Some (codes "launch:" ++ text) → text ≡ before ++ (58 ∷ behind)
      → silo_named g before ≡ Some silo → cargo_named g behind ≡ Some cargo → Known (flight silo cargo)
  pair_known number text before behind silo cargo dumped cut silo_is cargo_is =
      let row = silo_seat before silo silo_is in
      let column = cargo_seat behind cargo cargo_is in
      let place = row.place * length (cargo_in g) + column.place in
      let there = flies g row.place column.place silo cargo row.there column.there in
      let named : slice_index_or names place [] ≡ codes "launch:" ++ text =
      name_there place (flight silo cargo) there ∙ name_made (flight silo cargo)
      ∙ ap (λ a. codes "launch:" ++ (a ++ (58 ∷ cargo_name cargo))) row.name_is ∙ ap (λ b. codes "launch:" ++ (before ++ (58 ∷ b))) column.name_is ∙ ap (λ t. codes "launch:" ++ t) (sym cut) in
      record {
        place = place;
        there = there;
        held = inl (place_some g.recipe_names number [] (slice_index_or names place []) (slice_get_within g.recipe_names number (codes "launch:" ++ text) dumped) (get_or_from_slice_get g.recipe_names number (codes "launch:" ++ text) [] dumped ∙ sym named));
      }

  cut_known : (number : ℕ) (text : List ℕ) → slice_get g.recipe_names number ≡ Some (codes "launch:" ++ text) → (place : ℕ) → place < length text → IfSome (flight_cut g text place) Known
  unfolding flight_cut flight_named
  cut_known number text dumped place within = by_colon (slice_index_or text place 0 == 58) refl
    where
      by_cargo : (silo : Silo) → silo_named g (take place text) ≡ Some silo → (slice_index_or text place 0 == 58) ≡ true → (found : Option GoodId) → cargo_named g (drop (place + 1) text) ≡ found
          → IfSome (option_and_then (λ cargo. Some (flight silo cargo)) found) Known
      by_cargo silo silo_is colon None cargo_is = tt
      by_cargo silo silo_is colon (Some cargo) cargo_is =
          pair_known number text (take place text) (drop (place + 1) text) silo cargo dumped (cut_at text place within (eqb-true (slice_index_or text place 0) 58 colon)) silo_is cargo_is

      by_silo : (slice_index_or text place 0 == 58) ≡ true → (found : Option Silo) → silo_named g (take place text) ≡ found
          → IfSome (option_and_then (λ silo. option_and_then (λ cargo. Some (flight silo cargo)) (cargo_named g (drop (place + 1) text))) found) Known
      by_silo colon None silo_is = tt
      by_silo colon (Some silo) silo_is = by_cargo silo silo_is colon (cargo_named g (drop (place + 1) text)) refl

      by_colon : (b : Bool) → (slice_index_or text place 0 == 58) ≡ b
          → IfSome (if b then option_and_then (λ silo. option_and_then (λ cargo. Some (flight silo cargo)) (cargo_named g (drop (place + 1) text))) (silo_named g (take place text)) else None) Known
      by_colon true colon = by_silo colon (silo_named g (take place text)) refl
      by_colon false colon = tt

  dumped_known : (number : ℕ) (name : List ℕ) → slice_get g.recipe_names number ≡ Some name → IfSome (dumped_flight g name) Known
  unfolding dumped_flight begins_as_launch
  dumped_known number name dumped = by_start (starts_with eqb name (codes "launch:")) refl
    where
      by_start : (b : Bool) → starts_with eqb name (codes "launch:") ≡ b → IfSome (if b then least_below (flight_cut g (drop 7 name)) (length name - 7) else None) Known
      by_start true told =
          let made : name ≡ codes "launch:" ++ drop 7 name = (starts_is Decides-eqb name (codes "launch:") true (sym told)).0 refl in
          below_holds Known (flight_cut g (drop 7 name)) (length name - 7)
          (λ place within. cut_known number (drop 7 name) (dumped ∙ ap Some made) place (subst (λ n. place < n) (shorter name) within))
        where
          shorter : (name : List ℕ) → length name - 7 ≡ length (drop 7 name)
          shorter name = grind (arith, common_steps)
      by_start false told = tt

  -- two flights with one name
  later_known : (i j : ℕ) (a b : Flight) → slice_get (flights g) i ≡ Some a → slice_get (flights g) j ≡ Some b → launch_name g a ≡ launch_name g b → (a ≡ b → ⊥) → Known (later_of a b)
  later_known i j a b first second same differ = by_order (which_first g i j a b first second differ)
    where
      here : slice_index_or names i [] ≡ slice_index_or names j []
      here = name_there i a first ∙ same ∙ sym (name_there j b second)

      by_order : (i < j) ⊎ (j < i) → Known (later_of a b)
      by_order (inl less) =
          subst Known (ap (λ t. if t then b else a) (sym (in_order g i j a b first second less))) (record { place = j; there = second; held = inr (i, less, here) })
      by_order (inr more) =
          subst Known (ap (λ t. if t then b else a) (sym (one_way b a (in_order g j i b a second first more)))) (record { place = i; there = first; held = inr (j, more, sym here) })

  one_name : (silo middle rest : List ℕ) → codes "launch:" ++ (silo ++ (58 ∷ (middle ++ (58 ∷ rest)))) ≡ codes "launch:" ++ ((silo ++ (58 ∷ middle)) ++ (58 ∷ rest))
  one_name silo middle rest = ap (λ t. codes "launch:" ++ t) (sym (append_assoc silo (58 ∷ middle) (58 ∷ rest)))

  twins_known : (long : Silo) (q : ℕ) (cargo : GoodId) (r : ℕ) (short : Silo) (other : GoodId) (before middle rest : List ℕ) → slice_get (silos_in g) q ≡ Some long → slice_get (cargo_in g) r ≡ Some cargo
      → silo_named g before ≡ Some short → cargo_named g rest ≡ Some other → silo_name long ≡ before ++ (58 ∷ middle) → cargo_name cargo ≡ middle ++ (58 ∷ rest)
      → Known (later_of (flight short cargo) (flight long other))
  twins_known long q cargo r short other before middle rest here there short_is other_is long_cut cargo_cut =
      let row = silo_seat before short short_is in
      let column = cargo_seat rest other other_is in
      later_known (row.place * length (cargo_in g) + r) (q * length (cargo_in g) + column.place) (flight short cargo) (flight long other)
      (flies g row.place r short cargo row.there there) (flies g q column.place long other here column.there)
      (
      name_made (flight short cargo)
      ∙ ap (λ a. codes "launch:" ++ (a ++ (58 ∷ cargo_name cargo))) row.name_is ∙ ap (λ c. codes "launch:" ++ (before ++ (58 ∷ c))) cargo_cut
      ∙ one_name before middle rest
      ∙ sym (name_made (flight long other) ∙ ap (λ a. codes "launch:" ++ (a ++ (58 ∷ cargo_name other))) long_cut ∙ ap (λ c. codes "launch:" ++ ((before ++ (58 ∷ middle)) ++ (58 ∷ c))) column.name_is)
      )
      (λ same. never_longer before middle (sym row.name_is ∙ ap (λ (f : Flight). silo_name f.silo) same ∙ long_cut))

  with_known : (long : Silo) (q : ℕ) (short : Silo) (before middle : List ℕ) → slice_get (silos_in g) q ≡ Some long → silo_named g before ≡ Some short → silo_name long ≡ before ++ (58 ∷ middle)
      → (r : ℕ) (cargo : GoodId) → slice_get (cargo_in g) r ≡ Some cargo → IfSome (clash_with g short long middle cargo) Known
  unfolding clash_with ends_with
  with_known long q short before middle here short_is long_cut r cargo there = by_start (starts_with eqb (cargo_name cargo) (middle ++ 58 ∷ [])) refl
    where
      by_other : starts_with eqb (cargo_name cargo) (middle ++ 58 ∷ []) ≡ true → (found : Option GoodId) → cargo_named g (drop (length middle + 1) (cargo_name cargo)) ≡ found
          → IfSome (option_and_then (later_with short long) (option_and_then (λ rest. Some (record { whole = cargo; rest = rest })) found)) Known
      by_other told None other_is = tt
      by_other told (Some other) other_is = twins_known long q cargo r short other before middle (drop (length middle + 1) (cargo_name cargo)) here there short_is other_is long_cut (with_start g cargo middle told)

      by_start : (b : Bool) → starts_with eqb (cargo_name cargo) (middle ++ 58 ∷ []) ≡ b
          → IfSome (option_and_then (later_with short long) (if b then option_and_then (λ rest. Some (record { whole = cargo; rest = rest })) (cargo_named g (drop (length middle + 1) (cargo_name cargo))) else None)) Known
      by_start true told = by_other told (cargo_named g (drop (length middle + 1) (cargo_name cargo))) refl
      by_start false told = tt

  clash_known : (q : ℕ) (long : Silo) → slice_get (silos_in g) q ≡ Some long → IfSome (clash_of g (cargo_in g) long) Known
  unfolding clash_of clash_cut
  clash_known q long here = below_holds Known (clash_cut g (cargo_in g) long) (length (silo_name long)) (λ place within. by_colon place within (slice_index_or (silo_name long) place 0 == 58) refl)
    where
      by_short : (place : ℕ) → place < length (silo_name long) → (slice_index_or (silo_name long) place 0 == 58) ≡ true → (found : Option Silo) → silo_named g (take place (silo_name long)) ≡ found
          → IfSome (option_and_then (λ short. least_in (clash_with g short long (drop (place + 1) (silo_name long))) (cargo_in g)) found) Known
      by_short place within colon None short_is = tt
      by_short place within colon (Some short) short_is =
          in_holds Known (clash_with g short long (drop (place + 1) (silo_name long))) (cargo_in g)
          (with_known long q short (take place (silo_name long)) (drop (place + 1) (silo_name long)) here short_is (cut_at (silo_name long) place within (eqb-true (slice_index_or (silo_name long) place 0) 58 colon)))

      by_colon : (place : ℕ) → place < length (silo_name long) → (b : Bool) → (slice_index_or (silo_name long) place 0 == 58) ≡ b
          → IfSome (if b then option_and_then (λ short. least_in (clash_with g short long (drop (place + 1) (silo_name long))) (cargo_in g)) (silo_named g (take place (silo_name long))) else None) Known
      by_colon place within true colon = by_short place within colon (silo_named g (take place (silo_name long))) refl
      by_colon place within false colon = tt

  all_known : IfSome (earliest_taken g (silos_in g) (cargo_in g)) Known
  unfolding earliest_taken
  all_known =
      sooner_holds Known (least_in (dumped_flight g) g.recipe_names) (least_in (clash_of g (cargo_in g)) (silos_in g))
      (in_holds Known (dumped_flight g) g.recipe_names dumped_known) (in_holds Known (clash_of g (cargo_in g)) (silos_in g) clash_known)

  -- ---- and no flight with a name that is taken comes before it
  cut_found : (before behind : List ℕ) (silo : Silo) (cargo : GoodId) → silo_named g before ≡ Some silo → cargo_named g behind ≡ Some cargo → flight_cut g (before ++ (58 ∷ behind)) (length before) ≡ Some (flight silo cargo)
  unfolding flight_cut flight_named
  cut_found before behind silo cargo silo_is cargo_is =
      ap (λ b. if b then flight_named g (take (length before) (before ++ (58 ∷ behind))) (drop (length before + 1) (before ++ (58 ∷ behind))) else None) (eq-eqb (slice_index_or (before ++ (58 ∷ behind)) (length before) 0) 58 (colon_cut before behind))
      ∙ ap (λ t. flight_named g t (drop (length before + 1) (before ++ (58 ∷ behind)))) (take_cut before behind) ∙ ap (flight_named g before) (drop_cut before behind)
      ∙ ap (option_and_then (λ silo. option_and_then (λ cargo. Some (flight silo cargo)) (cargo_named g behind))) silo_is
      ∙ ap (option_and_then (λ cargo. Some (flight silo cargo))) cargo_is

  name_covers : (one : Flight) (k : ℕ) → Stands g k one → Covers (dumped_flight g (launch_name g one)) one
  name_covers one k stands_ =
      subst (λ found. Covers found one) (dumped_some g (launch_name g one) (silo_name one.silo ++ (58 ∷ cargo_name one.cargo)) (name_made one))
      (below_covers (flight_cut g (silo_name one.silo ++ (58 ∷ cargo_name one.cargo))) (length (silo_name one.silo ++ (58 ∷ cargo_name one.cargo))) (length (silo_name one.silo)) one (within_cut (silo_name one.silo) (cargo_name one.cargo))
      (subst (λ found. Covers found one) (sym (cut_found (silo_name one.silo) (cargo_name one.cargo) one.silo one.cargo (silo_again stands_.row one.silo stands_.silo) (cargo_again stands_.column one.cargo stands_.cargo))) (not_itself one)))

  dumped_covers : (k : ℕ) (one : Flight) → slice_get (flights g) k ≡ Some one → is_some (place_of g.recipe_names (launch_name g one)) ≡ true → Covers (least_in (dumped_flight g) g.recipe_names) one
  dumped_covers k one at there = by_place (place_of g.recipe_names (launch_name g one)) refl there
    where
      by_place : (found : Option ℕ) → place_of g.recipe_names (launch_name g one) ≡ found → is_some found ≡ true → Covers (least_in (dumped_flight g) g.recipe_names) one
      by_place None is some = absurd (cc)
      by_place (Some number) is some =
          in_covers (dumped_flight g) g.recipe_names number (launch_name g one) one (named_at g.recipe_names (launch_name g one) number is) (name_covers one k (stands g k one at))

  cut_covers : (q r : ℕ) (short long : Silo) (cargo other : GoodId) (before middle rest : List ℕ) (one : Flight) → slice_get (cargo_in g) r ≡ Some cargo
      → silo_named g before ≡ Some short → cargo_named g rest ≡ Some other → silo_name long ≡ before ++ (58 ∷ middle) → cargo_name cargo ≡ middle ++ (58 ∷ rest)
      → later_of (flight short cargo) (flight long other) ≡ one → Covers (clash_cut g (cargo_in g) long (length before)) one
  unfolding clash_cut
  cut_covers q r short long cargo other before middle rest one there short_is other_is long_cut cargo_cut later =
      let colon : (slice_index_or (silo_name long) (length before) 0 == 58) ≡ true = eq-eqb (slice_index_or (silo_name long) (length before) 0) 58 (ap (λ (name : List ℕ). slice_index_or name (length before) 0) long_cut ∙ colon_cut before middle) in
      let front : take (length before) (silo_name long) ≡ before = ap (take (length before)) long_cut ∙ take_cut before middle in
      let back : drop (length before + 1) (silo_name long) ≡ middle = ap (drop (length before + 1)) long_cut ∙ drop_cut before middle in
      let found : Covers (least_in (clash_with g short long middle) (cargo_in g)) one =
      in_covers (clash_with g short long middle) (cargo_in g) r cargo one there
      (subst (λ found. Covers found one) (sym (with_found g short long cargo middle other rest cargo_cut other_is ∙ ap Some later)) (not_itself one)) in
      subst (λ found. Covers found one)
      (sym (
      ap (λ b. if b then option_and_then (λ short. least_in (clash_with g short long (drop (length before + 1) (silo_name long))) (cargo_in g)) (silo_named g (take (length before) (silo_name long))) else None) colon
      ∙ ap (λ t. option_and_then (λ short. least_in (clash_with g short long (drop (length before + 1) (silo_name long))) (cargo_in g)) (silo_named g t)) front
      ∙ ap (option_and_then (λ short. least_in (clash_with g short long (drop (length before + 1) (silo_name long))) (cargo_in g))) short_is
      ∙ ap (λ t. least_in (clash_with g short long t) (cargo_in g)) back))
      found

  long_covers : (q r : ℕ) (short long : Silo) (cargo other : GoodId) (before middle rest : List ℕ) (one : Flight) → slice_get (silos_in g) q ≡ Some long → slice_get (cargo_in g) r ≡ Some cargo
      → silo_named g before ≡ Some short → cargo_named g rest ≡ Some other → silo_name long ≡ before ++ (58 ∷ middle) → cargo_name cargo ≡ middle ++ (58 ∷ rest)
      → later_of (flight short cargo) (flight long other) ≡ one → Covers (least_in (clash_of g (cargo_in g)) (silos_in g)) one
  unfolding clash_of
  long_covers q r short long cargo other before middle rest one here there short_is other_is long_cut cargo_cut later =
      in_covers (clash_of g (cargo_in g)) (silos_in g) q long one here
      (below_covers (clash_cut g (cargo_in g) long) (length (silo_name long)) (length before) one (subst (λ (name : List ℕ). length before < length name) (sym long_cut) (within_cut before middle))
      (cut_covers q r short long cargo other before middle rest one there short_is other_is long_cut cargo_cut later))

  twins_cover : (i j : ℕ) (a b : Flight) → slice_get (flights g) i ≡ Some a → slice_get (flights g) j ≡ Some b → i < j → launch_name g a ≡ launch_name g b → Covers (least_in (clash_of g (cargo_in g)) (silos_in g)) b
  twins_cover i j a b first second less same = by_cuts (stands g i a first) (stands g j b second) (two_cuts (silo_name a.silo) (silo_name b.silo) (cargo_name a.cargo) (cargo_name b.cargo) texts)
    where
      texts : silo_name a.silo ++ (58 ∷ cargo_name a.cargo) ≡ silo_name b.silo ++ (58 ∷ cargo_name b.cargo)
      texts =
          sym (drop_front (codes "launch:") (silo_name a.silo ++ (58 ∷ cargo_name a.cargo)))
          ∙ ap (drop (length (codes "launch:"))) (sym (name_made a) ∙ same ∙ name_made b)
          ∙ drop_front (codes "launch:") (silo_name b.silo ++ (58 ∷ cargo_name b.cargo))

      before : is_before a b ≡ true
      before = in_order g i j a b first second less

      same_some : {A : Type 0} (x y : A) → Some x ≡ Some y → x ≡ y
      same_some x y e = cc

      by_cuts : Stands g i a → Stands g j b → TwoCuts (silo_name a.silo) (silo_name b.silo) (cargo_name a.cargo) (cargo_name b.cargo) → Covers (least_in (clash_of g (cargo_in g)) (silos_in g)) b
      by_cuts here there (inl (silos, cargos)) =
          let silo : a.silo ≡ b.silo = same_some a.silo b.silo (sym (silo_again here.row a.silo here.silo) ∙ ap (silo_named g) silos ∙ silo_again there.row b.silo there.silo) in
          let cargo : a.cargo ≡ b.cargo = same_some a.cargo b.cargo (sym (cargo_again here.column a.cargo here.cargo) ∙ ap (cargo_named g) cargos ∙ cargo_again there.column b.cargo there.cargo) in
          let one : a ≡ b = ap (λ s. flight s a.cargo) silo ∙ ap (flight b.silo) cargo in
          absurd (differ (sym (ap (λ x. is_before x b) one ∙ not_itself b) ∙ before))
        where
          differ : false ≡ true → ⊥
          differ e = absurd (cc)
      by_cuts here there (inr (inl longer)) =
          long_covers there.row here.column a.silo b.silo a.cargo b.cargo (silo_name a.silo) longer.middle (cargo_name b.cargo) b there.silo here.cargo
          (silo_again here.row a.silo here.silo) (cargo_again there.column b.cargo there.cargo) longer.first longer.second (ap (λ t. if t then b else a) before)
      by_cuts here there (inr (inr longer)) =
          long_covers here.row there.column b.silo a.silo b.cargo a.cargo (silo_name b.silo) longer.middle (cargo_name a.cargo) b here.silo there.cargo
          (silo_again there.row b.silo there.silo) (cargo_again here.column a.cargo here.cargo) longer.first longer.second (ap (λ t. if t then a else b) (one_way a b before))

  held_covers : (k : ℕ) (one : Flight) → slice_get (flights g) k ≡ Some one → IsHeld g.recipe_names names k → Covers (earliest_taken g (silos_in g) (cargo_in g)) one
  unfolding earliest_taken
  held_covers k one at (inl there) =
      sooner_covers (least_in (dumped_flight g) g.recipe_names) (least_in (clash_of g (cargo_in g)) (silos_in g)) one
      (inl (dumped_covers k one at (ap (λ (name : List ℕ). is_some (place_of g.recipe_names name)) (sym (name_there k one at)) ∙ there)))
  held_covers k one at (inr (j, below, same)) =
      let within = slice_get_within (flights g) k one at in
      let other = slice_index_or (flights g) j one in
      let there : slice_get (flights g) j ≡ Some other = slice_get-get_or (flights g) j one (omega (arith, below, within)) in
      sooner_covers (least_in (dumped_flight g) g.recipe_names) (least_in (clash_of g (cargo_in g)) (silos_in g)) one
      (inr (twins_cover j k other one there at below (sym (name_there j other there) ∙ same ∙ name_there k one at)))

  pub earliest_is_first : earliest_taken g (silos_in g) (cargo_in g) ≡ flight_taken g
  unfolding flight_taken
  earliest_is_first = by_found (earliest_taken g (silos_in g) (cargo_in g)) refl all_known
    where
      long : length names ≡ length (flights g)
      long = length-map (flights g) (launch_name g)

      by_found : (found : Option Flight) → earliest_taken g (silos_in g) (cargo_in g) ≡ found → IfSome found Known → found ≡ option_and_then (slice_get (flights g)) (first_taken g.recipe_names [] names)
      by_found None is known =
          sym (ap (option_and_then (slice_get (flights g))) (none_held g.recipe_names names (λ j below held.
          let d : Flight = record { silo = record { machine = record { 0 = 0 }; category = 0; part = record { 0 = 0 }; parts = 0 }; cargo = record { 0 = 0 } } in
          let at = slice_get-get_or (flights g) j d (omega (arith, below, long)) in
          subst (λ found. Covers found (slice_index_or (flights g) j d)) is (held_covers j (slice_index_or (flights g) j d) at held))))
      by_found (Some one) is known =
          let within = slice_get_within (flights g) known.place one known.there in
          sym (
          ap (option_and_then (slice_get (flights g))) (first_held g.recipe_names names known.place (omega (arith, within, long)) known.held (λ j below held.
          let other = slice_index_or (flights g) j one in
          let at : slice_get (flights g) j ≡ Some other = slice_get-get_or (flights g) j one (omega (arith, below, within)) in
          let covers : is_before other one ≡ false = subst (λ found. Covers found other) is (held_covers j other at held) in
          differ (sym covers ∙ in_order g j known.place other one at known.there below)))
          ∙ known.there)
        where
          differ : false ≡ true → ⊥
          differ e = absurd (cc)

pub taken_first_of_all : (g : Game) (silos : List Silo) (cargo : List GoodId) → IsSound g → AreDifferent g.machine_names → AreDifferent g.item_names → silos ≡ silos_in g → cargo ≡ cargo_in g
    → earliest_taken g silos cargo ≡ flight_taken g
taken_first_of_all g silos cargo sound machines items silos_are cargo_is =
    ap (λ (xs : List Silo). earliest_taken g xs cargo) silos_are ∙ ap (earliest_taken g (silos_in g)) cargo_is ∙ earliest_is_first g sound machines items
