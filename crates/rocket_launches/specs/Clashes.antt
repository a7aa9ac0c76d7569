-- Launches with the name of a recipe of the dump or of an earlier launch, found by what the names are made of: of texts that are
-- cut at a colon, and without the launches themselves.
use Rattle.std.specs.Prelude.{◌≡◌, ◌<◌, ℕ, zero, suc, ◌+◌, ◌==◌, ◌&&◌, ◌||◌, ◌++◌, ◌-◌, Bool, eqb, nat_lt, List, [], ◌∷◌, Option, Some, None, drop, take, length, option_and_then, slice_get, slice_index_or, if◌then◌else◌}
use Rattle.std.specs.HashMap.{get_by}
use Rattle.std.specs.List.{starts_with}
use Rattle.std.specs.Str.{bytes_eq}
use Rattle.plan_base.specs.declared.ids.GoodId.{GoodId}
use Rattle.name_table.specs.Names.{place_of}
use Rattle.game_types.specs.Lookups.{item_at, machine_at}
use Rattle.game_types.specs.declared.games.Game.{Game}
use Rattle.rocket_launches.specs.declared.middles.Ends.{Ends}
use Rattle.rocket_launches.specs.declared.middles.Middles.{Middles}
use Rattle.rocket_launches.specs.declared.silos.Flight.{Flight}
use Rattle.rocket_launches.specs.declared.silos.Silo.{Silo}
use Rattle.rocket_launches.specs.Launches.{begins_as_launch, cargo_of, flight, name_at, silo_of}

-- ---- the earliest of some flights: by the silo, then by the cargo
unfoldable pub is_before : Flight → Flight → Bool
is_before a b = nat_lt a.silo.machine.0 b.silo.machine.0 || ((a.silo.machine.0 == b.silo.machine.0) && nat_lt a.cargo.0 b.cargo.0)

abbrev pub earlier_of : Flight → Flight → Flight
earlier_of a b = if is_before b a then b else a

abbrev pub later_of : Flight → Flight → Flight
later_of a b = if is_before a b then b else a

abbrev pub sooner : Option Flight → Option Flight → Option Flight
sooner None b = b
sooner (Some a) None = Some a
sooner (Some a) (Some b) = Some (earlier_of a b)

-- of those that are found at the numbers below a number
unfoldable pub least_below : (ℕ → Option Flight) → ℕ → Option Flight
least_below find zero = None
least_below find (suc n) = sooner (least_below find n) (find n)

-- of those that are found of the things of a list
abbrev pub least_in : {A : Type 0} → (A → Option Flight) → List A → Option Flight
least_in find things = least_below (λ k. option_and_then find (slice_get things k)) (length things)

-- ---- the silo and the cargo of a name
unfoldable pub silo_named : Game → List ℕ → Option Silo
silo_named g name = option_and_then (λ number. silo_of g number (machine_at g (record { 0 = number }))) (place_of g.machine_names name)

unfoldable pub cargo_named : Game → List ℕ → Option GoodId
cargo_named g name = option_and_then (λ number. cargo_of number (item_at g (record { 0 = number }))) (place_of g.item_names name)

-- ---- flights that recipes of the dump name
unfoldable pub flight_named : Game → List ℕ → List ℕ → Option Flight
flight_named g before behind = option_and_then (λ silo. option_and_then (λ cargo. Some (flight silo cargo)) (cargo_named g behind)) (silo_named g before)

-- a text that is cut at a place, where a colon stands there
unfoldable pub flight_cut : Game → List ℕ → ℕ → Option Flight
flight_cut g text place = if slice_index_or text place 0 == 58 then flight_named g (take place text) (drop (place + 1) text) else None

unfoldable pub dumped_flight : Game → List ℕ → Option Flight
dumped_flight g name = if begins_as_launch name then least_below (flight_cut g (drop 7 name)) (length name - 7) else None

-- ---- cargo whose name is a middle, a colon and the name of other cargo, which is the rest
unfoldable pub ends_with : Game → List ℕ → GoodId → Option Ends
ends_with g middle cargo =
    if starts_with eqb (name_at g.item_names cargo.0) (middle ++ 58 ∷ [])
    then option_and_then (λ rest. Some (record { whole = cargo; rest = rest })) (cargo_named g (drop (length middle + 1) (name_at g.item_names cargo.0)))
    else None

-- the least such cargo, and the least rest
abbrev pub lesser : GoodId → GoodId → GoodId
lesser a b = if nat_lt b.0 a.0 then b else a

abbrev pub both_ends : Ends → Ends → Ends
both_ends a b = record { whole = lesser a.whole b.whole; rest = lesser a.rest b.rest }

abbrev pub joined : Option Ends → Option Ends → Option Ends
joined None b = b
joined (Some a) None = Some a
joined (Some a) (Some b) = Some (both_ends a b)

-- among the first cargo of a list
unfoldable pub ends_among : Game → List GoodId → List ℕ → ℕ → Option Ends
ends_among g cargo middle zero = None
ends_among g cargo middle (suc n) = joined (ends_among g cargo middle n) (option_and_then (ends_with g middle) (slice_get cargo n))

-- what a table has of a middle
abbrev pub ends_at : Middles → List ℕ → Option Ends
ends_at table middle = get_by (λ key. bytes_eq middle key.now) table.ends

-- a table has nothing of longer middles than it says
abbrev pub IsWithin : Middles → Type 0
IsWithin table = (middle : List ℕ) → table.longest < length middle → ends_at table middle ≡ None

-- a table that has of each middle what all cargo of a list gives
abbrev pub Tells : Game → List GoodId → Middles → Type 0
Tells g cargo table = IsWithin table × ((middle : List ℕ) → ends_at table middle ≡ ends_among g cargo middle (length cargo))

-- ---- flights of two silos with one name: one silo's name is the other's, a colon and a middle; and one cargo's name is this
-- middle, a colon and the other's
abbrev pub later_with : Silo → Silo → Ends → Option Flight
later_with short long ends = Some (later_of (flight short ends.whole) (flight long ends.rest))

unfoldable pub clash_with : Game → Silo → Silo → List ℕ → GoodId → Option Flight
clash_with g short long middle cargo = option_and_then (later_with short long) (ends_with g middle cargo)

-- of a silo whose name is cut at a place, where a colon stands there
unfoldable pub clash_cut : Game → List GoodId → Silo → ℕ → Option Flight
clash_cut g cargo long place =
    if slice_index_or (name_at g.machine_names long.machine.0) place 0 == 58
    then option_and_then (λ short. least_in (clash_with g short long (drop (place + 1) (name_at g.machine_names long.machine.0))) cargo) (silo_named g (take place (name_at g.machine_names long.machine.0)))
    else None

unfoldable pub clash_of : Game → List GoodId → Silo → Option Flight
clash_of g cargo long = least_below (clash_cut g cargo long) (length (name_at g.machine_names long.machine.0))

-- ---- the earliest flight whose launch has a name that is taken
unfoldable pub earliest_taken : Game → List Silo → List GoodId → Option Flight
earliest_taken g silos cargo = sooner (least_in (dumped_flight g) g.recipe_names) (least_in (clash_of g cargo) silos)
