-- A sound game with its launches is sound.
use Rattle.std.proofs.Common.{◌≡◌, ◌∙◌, ◌<◌, ◌≤◌, ◌+◌, ◌-◌, ◌++◌, ◌⊎◌, ℕ, List, [], Option, Some, None, Ok, Err, Result, length, get_or, map, refl, sym, ap, subst, arith, inl, inr}
use Rattle.std.proofs.lemmas.List.{length-map}
use Rattle.std.specs.Prelude.{All, IfOk, IsSomeAnd, option_and_then, slice_get, slice_index_or}
use Rattle.std.proofs.lemmas.Option.{get_or_from_slice_get, slice_get-get_or, slice_get_cases, slice_get_past, slice_get_within}
use Rattle.plan_base.specs.Shape.{node_count}
use Rattle.game_types.specs.Nodes.{node_limit, shape_of}
use Rattle.game_types.specs.Sound.{IsSound}
use Rattle.game_types.specs.declared.games.Game.{Game}
use Rattle.game_types.specs.declared.machinery.Machine.{Machine}
use Rattle.game_types.specs.declared.recipes.Recipe.{Recipe}
use Rattle.craft_reader.specs.declared.fault.DumpFault.{DumpFault}
use Rattle.craft_reader.specs.Faults.{GivesDump}
use Rattle.prototype_fields.specs.declared.fault.FieldCode.{FieldCode}
use Rattle.prototype_fields.specs.declared.fault.FieldCode.TheVariants.{Twice, Limit}
use Rattle.dump_reader.specs.Dump.{◌▷◌}
use Rattle.rocket_launches.specs.declared.silos.Flight.{Flight}
use Rattle.rocket_launches.specs.Launches.{first_taken, flight_beyond, flight_taken, IsThere, flights, launch_fault, launch_name, launch_recipe, unless_some, with_launches}
use Rattle.rocket_launches.proofs.Flights.{all_there, launches_sound, some_within}
use Rattle.rocket_launches.proofs.Grown.{grown, grown_sound}

no_further : {A : Type 0} (xs : List A) (k : ℕ) → slice_get xs k ≡ None → length xs ≤ k
no_further {A = A} xs k is = by_cases (slice_get_cases xs k).1
  where
    by_cases : ((x : A) × (k < length xs) × (slice_get xs k ≡ Some x) × (get_or xs k x ≡ x)) ⊎ ((length xs ≤ k) × (slice_get xs k ≡ None)) → length xs ≤ k
    by_cases (inl (x, within, found, same)) = absurd (cc)
    by_cases (inr (past, none)) = past

abbrev IsLaunched : Game → Game → Type 0
IsLaunched g new = IsSound new × (new.fluids ≡ g.fluids)

with_launches_sound : (g : Game) → IsSound g → IfOk (with_launches g) (IsLaunched g)
unfolding with_launches flight_beyond
with_launches_sound g sound = by_taken (flight_taken g) (slice_get (flights g) (node_limit - node_count (shape_of g))) refl
  where
    new : Game
    new = grown g (map (launch_recipe g) (flights g)) (map (launch_name g) (flights g))

    by_taken : (taken beyond : Option Flight) → slice_get (flights g) (node_limit - node_count (shape_of g)) ≡ beyond
        → IfOk (unless_some g Twice taken ▷ λ _. unless_some g Limit beyond ▷ λ _. Ok new) (IsLaunched g)
    by_taken (Some flight) beyond is = tt
    by_taken None (Some flight) is = tt
    by_taken None None is =
        let few = no_further (flights g) (node_limit - node_count (shape_of g)) is in
        let nodes = sound.nodes in
        let recipes : length (map (launch_recipe g) (flights g)) ≡ length (flights g) = length-map (flights g) (launch_recipe g) in
        let names : length (map (launch_name g) (flights g)) ≡ length (flights g) = length-map (flights g) (launch_name g) in
        (grown_sound g (map (launch_recipe g) (flights g)) (map (launch_name g) (flights g)) sound (launches_sound g sound) (names ∙ sym recipes) (omega (arith, few, nodes, recipes)), refl)

pub answer_sound : (g : Game) → IsSound g → (answer : Result Game DumpFault) → GivesDump (with_launches g) answer → IfOk answer IsSound
answer_sound g sound (Ok new) gives = (subst (λ (r : Result Game DumpFault). IfOk r (IsLaunched g)) gives (with_launches_sound g sound)).0
answer_sound g sound (Err fault) gives = tt

pub answer_fluids : (g : Game) → IsSound g → (answer : Result Game DumpFault) → GivesDump (with_launches g) answer → IfOk answer (λ new. new.fluids ≡ g.fluids)
answer_fluids g sound (Ok new) gives = (subst (λ (r : Result Game DumpFault). IfOk r (IsLaunched g)) gives (with_launches_sound g sound)).1
answer_fluids g sound (Err fault) gives = tt

-- ---- what is answered by the names that were added
pub all_launched : (g : Game) (names : List (List ℕ)) → IsSound g → node_count (shape_of g) + length (flights g) ≤ node_limit → names ≡ map (launch_name g) (flights g) → first_taken g.recipe_names [] names ≡ None
    → with_launches g ≡ Ok (record g { recipes = g.recipes ++ map (launch_recipe g) (flights g); recipe_names = g.recipe_names ++ map (launch_name g) (flights g) })
unfolding with_launches flight_taken flight_beyond
all_launched g names sound few are none =
    let past : slice_get (flights g) (node_limit - node_count (shape_of g)) ≡ None = slice_get_past (flights g) (node_limit - node_count (shape_of g)) (omega (arith, few)) in
    let free : first_taken g.recipe_names [] (map (launch_name g) (flights g)) ≡ None = ap (first_taken g.recipe_names []) (sym are) ∙ none in
    rw (free, past) refl

pub one_taken : (g : Game) (names : List (List ℕ)) (place : ℕ) (one : Flight) → names ≡ map (launch_name g) (flights g) → first_taken g.recipe_names [] names ≡ Some place → slice_get (flights g) place ≡ Some one
    → with_launches g ≡ Err (launch_fault g Twice one)
unfolding with_launches flight_taken
one_taken g names place one are taken is =
    let first : first_taken g.recipe_names [] (map (launch_name g) (flights g)) ≡ Some place = ap (first_taken g.recipe_names []) (sym are) ∙ taken in
    rw (first, is) refl

pub names_launched : (g : Game) (all : List Flight) (names now : List (List ℕ)) (recipes : List Recipe) (new : Game) → IsSound g → all ≡ flights g → node_count (shape_of g) + length all ≤ node_limit
    → names ≡ map (launch_name g) all → recipes ≡ map (launch_recipe g) all → first_taken g.recipe_names [] names ≡ None → now ≡ g.recipe_names ++ names
    → new ≡ record g { recipes = g.recipes ++ recipes; recipe_names = now } → with_launches g ≡ Ok new
names_launched g all names now recipes new sound is few are made none added new_is =
    let all_names : names ≡ map (launch_name g) (flights g) = are ∙ ap (map (launch_name g)) is in
    all_launched g names sound (subst (λ (xs : List Flight). node_count (shape_of g) + length xs ≤ node_limit) is few) all_names none
    ∙ ap Ok (sym (
    new_is
    ∙ ap (λ rs. record g { recipes = g.recipes ++ rs; recipe_names = now }) (made ∙ ap (map (launch_recipe g)) is)
    ∙ ap (λ ns. record g { recipes = g.recipes ++ map (launch_recipe g) (flights g); recipe_names = ns }) (added ∙ ap (λ ns. g.recipe_names ++ ns) all_names)))

within_flights : (g : Game) (all : List Flight) (names : List (List ℕ)) (place : ℕ) → names ≡ map (launch_name g) all → place < length names → place < length all
within_flights g all names place are within = subst (λ (n : ℕ). place < n) (ap length are ∙ length-map all (launch_name g)) within

pub flight_named : (g : Game) → IsSound g → (all : List Flight) (names : List (List ℕ)) (place : ℕ) (d : Flight) → all ≡ flights g → names ≡ map (launch_name g) all → place < length names
    → (slice_index_or all place d).silo.machine.0 < length g.machine_names
flight_named g sound all names place d is are within =
    let there : IsThere g (slice_index_or all place d) = (subst (λ (xs : List Flight). All (IsThere g) xs) (sym is) (all_there g sound)) place d (within_flights g all names place are within) in
    subst (λ (n : ℕ). (slice_index_or all place d).silo.machine.0 < n) (sym sound.machine_names) (some_within _ g.machines (slice_index_or all place d).silo.machine.0 there.silo)

fault_same : (g : Game) (now : List (List ℕ)) (one : Flight) → launch_fault (record g { recipe_names = now }) Twice one ≡ launch_fault g Twice one
unfolding launch_fault
fault_same g now one = refl

pub name_taken : (g : Game) (all : List Flight) (names now : List (List ℕ)) (place : ℕ) (d : Flight) (fault : DumpFault) → all ≡ flights g → names ≡ map (launch_name g) all
    → first_taken g.recipe_names [] names ≡ Some place → place < length names → fault ≡ launch_fault (record g { recipe_names = now }) Twice (slice_index_or all place d) → with_launches g ≡ Err fault
name_taken g all names now place d fault is are taken within fault_is =
    one_taken g names place (slice_index_or all place d) (are ∙ ap (map (launch_name g)) is) taken
    (subst (λ (xs : List Flight). slice_get xs place ≡ Some (slice_index_or all place d)) is (slice_get-get_or all place d (within_flights g all names place are within)))
    ∙ ap Err (sym (fault_is ∙ fault_same g now (slice_index_or all place d)))

-- ---- what is answered where there are more flights than there may be nodes
pub flight_known : (g : Game) → IsSound g → (all : List Flight) (place : ℕ) (d : Flight) → all ≡ flights g → place < length all → (slice_index_or all place d).silo.machine.0 < length g.machine_names
flight_known g sound all place d is within = flight_named g sound all (map (launch_name g) all) place d is refl (subst (λ (n : ℕ). place < n) (sym (length-map all (launch_name g))) within)

beyond_there : (g : Game) (beyond : Flight) → flight_beyond g ≡ Some beyond → slice_get (flights g) (node_limit - node_count (shape_of g)) ≡ Some beyond
unfolding flight_beyond
beyond_there g beyond is = is

pub beyond_named : (g : Game) → IsSound g → (beyond : Flight) → flight_beyond g ≡ Some beyond → beyond.silo.machine.0 < length g.machine_names
beyond_named g sound beyond is =
    let at = beyond_there g beyond is in
    let place = node_limit - node_count (shape_of g) in
    subst (λ (one : Flight). one.silo.machine.0 < length g.machine_names) (get_or_from_slice_get (flights g) place beyond beyond at)
    (flight_known g sound (flights g) place beyond refl (slice_get_within (flights g) place beyond at))

pub enough_room : (g : Game) → IsSound g → (all : List Flight) → all ≡ flights g → flight_beyond g ≡ None → node_count (shape_of g) + length all ≤ node_limit
unfolding flight_beyond
enough_room g sound all is none =
    let few = no_further (flights g) (node_limit - node_count (shape_of g)) none in
    let nodes = sound.nodes in
    subst (λ (xs : List Flight). node_count (shape_of g) + length xs ≤ node_limit) (sym is) (omega (arith, few, nodes))

pub none_found : (found : Option Flight) → ((one : Flight) → found ≡ Some one → ⊥) → found ≡ None
none_found None never = refl
none_found (Some one) never = absurd (never one refl)

-- ---- what is answered by the first flight whose name is taken
pub twice_first : (g : Game) (one : Flight) → Some one ≡ flight_taken g → with_launches g ≡ Err (launch_fault g Twice one)
unfolding with_launches
twice_first g one taken = rw (sym taken) refl

pub limit_first : (g : Game) (beyond : Flight) → None ≡ flight_taken g → flight_beyond g ≡ Some beyond → with_launches g ≡ Err (launch_fault g Limit beyond)
unfolding with_launches
limit_first g beyond free there = rw (sym free, there) refl

pub taken_named : (g : Game) → IsSound g → (one : Flight) → Some one ≡ flight_taken g → one.silo.machine.0 < length g.machine_names
unfolding flight_taken
taken_named g sound one taken = by_place (first_taken g.recipe_names [] (map (launch_name g) (flights g))) taken
  where
    by_place : (found : Option ℕ) → Some one ≡ option_and_then (slice_get (flights g)) found → one.silo.machine.0 < length g.machine_names
    by_place None is = absurd (cc)
    by_place (Some place) is =
        subst (λ (f : Flight). f.silo.machine.0 < length g.machine_names) (get_or_from_slice_get (flights g) place one one (sym is))
        (flight_known g sound (flights g) place one refl (slice_get_within (flights g) place one (sym is)))
