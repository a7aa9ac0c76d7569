-- A game put together from its parts.
use Rattle.std.proofs.Common.{◌≡◌, ◌∙◌, ◌<◌, ◌≤◌, ◌+◌, ◌-◌, ℕ, Bool, true, false, List, [], Some, None, length, map, get_or, refl, sym, ap, arith}
use Rattle.std.specs.Prelude.{Vec, not, nat_lt}
use Rattle.std.specs.Global.{Global}
use Rattle.std.proofs.Math.Path.{fun_ext}
use Rattle.std.proofs.lemmas.Bool.Decides.{nat_tests}
use Rattle.fractions.specs.Fraction.{Fraction}
use Rattle.plan_base.specs.Shape.{node_count}
use Rattle.game_types.specs.Nodes.{node_limit, shape_of}
use Rattle.game_types.specs.Sound.{IsSound}
use Rattle.game_types.specs.Temperatures.{fluid_at}
use Rattle.game_types.specs.declared.games.Game.{Game}
use Rattle.game_types.specs.declared.goods.Fluid.{Fluid}
use Rattle.game_types.specs.declared.machinery.Machine.{Machine}
use Rattle.game_types.specs.declared.machinery.MachineKind.{MachineKind}
use Rattle.game_types.specs.declared.machinery.MachineKind.TheVariants.{Crafter, Drill, Pump, Boiler, Generator, BurnerGenerator, Solar, Reactor, Lab, Beacon}
use Rattle.game_types.specs.declared.recipes.Recipe.{Recipe}
use Rattle.game_types.specs.declared.recipes.Source.{Source}
use Rattle.fluid_variants.specs.Contents.{contents}
use Rattle.std.proofs.lemmas.List.{length-map}
use Rattle.fluid_variants.specs.Records.{Numbering, all_names, all_records, new_kind, new_machine, new_recipe, new_source, numbering_of, record_count, record_place}
use Rattle.fluid_variants.specs.Places.{Listed}
use Rattle.fluid_variants.specs.Split.{numbered_by, split}
use Rattle.fluid_variants.specs.Temperatures.{heat_of, machine_made, temperature_lists}
use Rattle.fluid_variants.proofs.Contents.{contents_at, length_contents}
use Rattle.fluid_variants.proofs.PlaceLemmas.{place_below, place_first, place_from, place_next, within_contents}
use Rattle.fluid_variants.proofs.Rising.{length_lists}
use Rattle.fluid_variants.proofs.SoundSplit.{all_long}

-- ---- room for all records
room_here : (lists : List (Vec Fraction Global)) (k : ℕ) (list : Vec Fraction Global) (count : ℕ) → k < length lists → list ≡ get_or lists k list → count ≡ record_count list.items → record_place 0 (contents lists) (k + 1) ≡ record_place 0 (contents lists) k + count
room_here lists k list count within is counted =
    place_next 0 (contents lists) k (within_contents lists k within) ∙ ap (λ n. record_place 0 (contents lists) k + n) (ap record_count (contents_at lists k list within is) ∙ sym counted)

pub room_first : (lists : List (Vec Fraction Global)) (room : ℕ) → room + record_place 0 (contents lists) 0 ≡ room
room_first lists room = let none = place_first 0 (contents lists) in omega (arith, none)

pub room_next : (lists : List (Vec Fraction Global)) (k left room : ℕ) (list : Vec Fraction Global) (count : ℕ) → k < length lists → list ≡ get_or lists k list → count ≡ record_count list.items → count ≤ left
    → left + record_place 0 (contents lists) k ≡ room → left - count + record_place 0 (contents lists) (k + 1) ≡ room
room_next lists k left room list count within is counted fits so_far = let step = room_here lists k list count within is counted in omega (arith, step, fits, so_far)

pub room_gone : (lists : List (Vec Fraction Global)) (k left room : ℕ) (list : Vec Fraction Global) (count : ℕ) → k < length lists → list ≡ get_or lists k list → count ≡ record_count list.items → left < count
    → left + record_place 0 (contents lists) k ≡ room → false ≡ not (nat_lt room (record_place 0 (contents lists) (length lists)))
room_gone lists k left room list count within is counted gone so_far =
    let step = room_here lists k list count within is counted in
    let end = place_below 0 (contents lists) (k + 1) in
    let long = ap (record_place 0 (contents lists)) (length_contents lists) in
    let test : nat_lt room (record_place 0 (contents lists) (length lists)) ≡ true = grind (arith, nat_tests, step, end, long, gone, so_far) in
    sym (ap not test)

pub room_left : (lists : List (Vec Fraction Global)) (k left room : ℕ) → k ≡ length lists → left + record_place 0 (contents lists) k ≡ room → true ≡ not (nat_lt room (record_place 0 (contents lists) (length lists)))
room_left lists k left room end so_far =
    let same = ap (record_place 0 (contents lists)) end in
    let test : nat_lt room (record_place 0 (contents lists) (length lists)) ≡ false = grind (arith, nat_tests, same, so_far) in
    sym (ap not test)

-- ---- the nodes of the game with all records
split_nodes : (g : Game) → node_count (shape_of (split g)) + length g.fluids ≡ node_count (shape_of g) + record_place 0 (temperature_lists g) (length (temperature_lists g))
unfolding split
split_nodes g =
    let fluids = all_long (length g.items) g.fluids (temperature_lists g) (sym (length_lists g)) in
    let from = place_from (length g.items) (temperature_lists g) (length (temperature_lists g)) in
    let recipes = length-map g.recipes (new_recipe g (numbering_of (length g.items) (temperature_lists g))) in
    let sources = length-map g.sources (new_source g (numbering_of (length g.items) (temperature_lists g))) in
    let machines = length-map g.machines (new_machine g (numbering_of (length g.items) (temperature_lists g))) in
    omega (arith, fluids, from, recipes, sources, machines)

pub few_nodes : (g : Game) (lists : List (Vec Fraction Global)) (room : ℕ) (answer : Bool) → IsSound g → contents lists ≡ temperature_lists g → room ≡ node_limit - (node_count (shape_of g) - length g.fluids)
    → answer ≡ not (nat_lt room (record_place 0 (contents lists) (length lists))) → answer ≡ not (nat_lt node_limit (node_count (shape_of (split g))))
few_nodes g lists room answer sound are is answered =
    let long : length lists ≡ length (temperature_lists g) = sym (length_contents lists) ∙ ap length are in
    let all : record_place 0 (contents lists) (length lists) ≡ record_place 0 (temperature_lists g) (length (temperature_lists g)) = ap (λ ls. record_place 0 ls (length lists)) are ∙ ap (record_place 0 (temperature_lists g)) long in
    answered ∙ ap (λ n. not (nat_lt room n)) all ∙ ap not (by_nodes (record_place 0 (temperature_lists g) (length (temperature_lists g))) (node_count (shape_of (split g))) (split_nodes g))
  where
    by_nodes : (records nodes : ℕ) → nodes + length g.fluids ≡ node_count (shape_of g) + records → nat_lt room records ≡ nat_lt node_limit nodes
    by_nodes records nodes sum = let limit = sound.nodes in grind (arith, nat_tests, limit, is, sum)

-- ---- a machine of a game names the same records where its machines are taken out
kind_apart : (g : Game) (numbering : Numbering) (kind : MachineKind) → new_kind (record g { machines = [] }) numbering kind ≡ new_kind g numbering kind
unfolding machine_made heat_of fluid_at
kind_apart g numbering (Crafter speed categories fixed) = refl
kind_apart g numbering (Drill speed categories fluid_box) = refl
kind_apart g numbering (Pump fluid speed) = refl
kind_apart g numbering (Boiler input None target) = refl
kind_apart g numbering (Boiler input (Some output) target) = refl
kind_apart g numbering (Generator input effectivity per_tick max_temperature burns output) = refl
kind_apart g numbering (BurnerGenerator output) = refl
kind_apart g numbering (Solar production) = refl
kind_apart g numbering Reactor = refl
kind_apart g numbering (Lab inputs speed) = refl
kind_apart g numbering (Beacon effectivity) = refl

pub machines_apart : (g : Game) (numbering : Numbering) (machines : List Machine) → map (new_machine (record g { machines = [] }) numbering) machines ≡ map (new_machine g numbering) machines
machines_apart g numbering machines =
    ap (λ f. map f machines) (fun_ext (λ (machine : Machine). ap (λ kind. record (new_machine g numbering machine) { kind = kind }) (kind_apart g numbering machine.kind)))

-- ---- the game with all records
split_fluids_long : (g : Game) → length g.items + length (split g).fluids ≡ record_place (length g.items) (temperature_lists g) (length (temperature_lists g))
unfolding split
split_fluids_long g = all_long (length g.items) g.fluids (temperature_lists g) (sym (length_lists g))

same_items : (g : Game) → (split g).items ≡ g.items
unfolding split
same_items g = refl

pub places_room : (g : Game) (lists : List (Vec Fraction Global)) (items : ℕ) → contents lists ≡ temperature_lists g → items ≡ length g.items → node_count (shape_of (split g)) ≤ node_limit → record_place items (contents lists) (length lists) ≤ 131_072
places_room g lists items are is few =
    let long : length lists ≡ length (temperature_lists g) = sym (length_contents lists) ∙ ap length are in
    let all : record_place items (contents lists) (length lists) ≡ record_place (length g.items) (temperature_lists g) (length (temperature_lists g)) =
    ap (λ n. record_place n (contents lists) (length lists)) is ∙ ap (λ ls. record_place (length g.items) ls (length lists)) are ∙ ap (record_place (length g.items) (temperature_lists g)) long in
    let fluids = split_fluids_long g in
    let items_same = ap length (same_items g) in
    omega (arith, all, fluids, items_same, few)

pub as_many_lists : (g : Game) (lists : List (Vec Fraction Global)) → contents lists ≡ temperature_lists g → length g.fluids ≡ length (contents lists)
as_many_lists g lists are = sym (length_lists g) ∙ sym (ap length are)

pub split_is : (g after new : Game) (places : Listed) (items : ℕ) (lists : List (List Fraction)) (fluids : List Fluid) (names : List (List ℕ)) → places ≡ record { items = items; lists = lists } → items ≡ length g.items → lists ≡ temperature_lists g
    → fluids ≡ all_records places.items g.fluids places.lists → names ≡ all_names g.fluid_names (temperature_lists g)
    → after ≡ numbered_by g (numbering_of places.items places.lists) g → new ≡ record after { fluids = fluids; fluid_names = names } → new ≡ split g
unfolding split
split_is g after new places items lists fluids names place item list are named after_is is =
    let same : places ≡ record { items = length g.items; lists = temperature_lists g } = place ∙ ap (λ (n : ℕ). let l : Listed = record { items = n; lists = lists } in l) item ∙ ap (λ ls. let l : Listed = record { items = length g.items; lists = ls } in l) list in
    is
    ∙ ap (λ (h : Game). record h { fluids = fluids; fluid_names = names }) after_is
    ∙ ap (λ fs. numbered_by g (numbering_of places.items places.lists) (record g { fluids = fs; fluid_names = names })) are
    ∙ ap (λ ns. numbered_by g (numbering_of places.items places.lists) (record g { fluids = all_records places.items g.fluids places.lists; fluid_names = ns })) named
    ∙ ap (λ (p : Listed). numbered_by g (numbering_of p.items p.lists) (record g { fluids = all_records p.items g.fluids p.lists; fluid_names = all_names g.fluid_names (temperature_lists g) })) same

pub together : (g apart new : Game) (numbering : Numbering) (recipes : List Recipe) (sources : List Source) (machines made : List Machine) → apart ≡ record g { machines = [] } → machines ≡ g.machines
    → recipes ≡ map (new_recipe g numbering) g.recipes → sources ≡ map (new_source g numbering) g.sources → made ≡ map (new_machine apart numbering) machines
    → new ≡ record apart { recipes = recipes; sources = sources; machines = made }
    → new ≡ numbered_by g numbering g
together g apart new numbering recipes sources machines made apart_is machines_are recipes_are sources_are made_are is =
    let made_of_g : made ≡ map (new_machine g numbering) g.machines =
    made_are ∙ ap (λ (h : Game). map (new_machine h numbering) machines) apart_is ∙ machines_apart g numbering machines ∙ ap (map (new_machine g numbering)) machines_are in
    is
    ∙ ap (λ (h : Game). record h { recipes = recipes; sources = sources; machines = made }) apart_is
    ∙ ap (λ (rs : List Recipe). record g { recipes = rs; sources = sources; machines = made }) recipes_are
    ∙ ap (λ (ss : List Source). record g { recipes = map (new_recipe g numbering) g.recipes; sources = ss; machines = made }) sources_are
    ∙ ap (λ (ms : List Machine). record g { recipes = map (new_recipe g numbering) g.recipes; sources = map (new_source g numbering) g.sources; machines = ms }) made_of_g
