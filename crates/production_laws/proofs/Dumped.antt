-- The game of a dump has a launch for each silo with each cargo.
use Rattle.std.proofs.Common.{◌≡◌, ◌∙◌, ◌<◌, ◌+◌, ◌++◌, ℕ, zero, suc, Bool, true, false, List, [], ◌∷◌, length, map, refl, sym, ap, ap₂, subst, arith}
use Rattle.std.specs.Prelude.{All, IfSome, Some, None, Result, Ok, Err, nat_lt, ◌==◌, slice_get, slice_index_or, pos, if◌then◌else◌}
use Rattle.std.specs.List.{flat_map}
use Rattle.std.proofs.lemmas.Bool.Decides.{nat_tests}
use Rattle.std.proofs.lemmas.List.{length-append, length-map}
use Rattle.std.proofs.lemmas.List.Elements.{All-nil, All-append, All-head, All-tail, All-map, All-get_or}
use Rattle.std.proofs.lemmas.Option.{get_or_from_slice_get, slice_get_within}
use Rattle.fractions.specs.Fraction.{Fraction, one_fraction, whole_fraction}
use Rattle.craft_reader.specs.declared.fault.DumpFault.{DumpFault}
use Rattle.dump_reader.specs.Dump.{◌▷◌, raw_game}
use Rattle.plan_base.specs.declared.ids.GoodId.{GoodId}
use Rattle.game_types.specs.Lookups.{item_at, no_item, no_recipe, recipe_at}
use Rattle.game_types.specs.Sound.{IsCrafterKind, IsGood, IsSound, IsSoundItem, IsSoundRecipe}
use Rattle.game_types.specs.declared.games.Game.{Game}
use Rattle.game_types.specs.declared.goods.Item.{Item}
use Rattle.game_types.specs.declared.recipes.Part.{Part}
use Rattle.game_types.specs.declared.recipes.Product.{Product}
use Rattle.game_reader.specs.Games.{HasGame, finished, game_of, resolved}
use Rattle.game_reader.specs.Links.{linked}
use Rattle.fluid_variants.specs.Temperatures.{product_made, temperature_lists}
use Rattle.fluid_variants.specs.Records.{Numbering, new_product, new_recipe, numbering_of, plain_of}
use Rattle.fluid_variants.specs.Split.{split}
use Rattle.plan_base.specs.Shape.{node_count}
use Rattle.game_types.specs.Nodes.{node_limit, shape_of}
use Rattle.prototype_fields.specs.declared.fault.FieldCode.TheVariants.{Limit, Twice}
use Rattle.fluid_variants.specs.Naming.{first_twice}
use Rattle.fluid_variants.specs.Variants.{first_variant_name, too_many_variants, unless_named, with_variants, within_limit}
use Rattle.rocket_launches.specs.Launches.{as_catalyst, cargo_in, cargo_of, flight, flight_beyond, flight_taken, flights, launch_name, launch_recipe, one_part, recipe_with, silos_in, unless_some, with_launches}
use Rattle.rocket_launches.proofs.Flights.{found_hold, some_within}
use Rattle.rocket_launches.specs.declared.silos.Flight.{Flight}
use Rattle.rocket_launches.specs.declared.silos.Silo.{Silo}
use Rattle.production_laws.specs.Dumped.{HasLaunch, HasLaunches}
use Rattle.production_laws.proofs.Items.{no_fluid_at}

-- ---- what the passes give
after : {A B : Type 0} (first : Result A DumpFault) (next : A → Result B DumpFault) (value : B) → (first ▷ next) ≡ Ok value → (x : A) × (first ≡ Ok x) × (next x ≡ Ok value)
after (Ok x) next value is = (x, refl, is)
after (Err fault) next value is = cc

found_value : {A : Type 0} (one other : A) → (let first : Result A DumpFault = Ok one in first) ≡ Ok other → one ≡ other
found_value one other is = cc

abbrev launched : Game → Game
launched g = record g { recipes = g.recipes ++ map (launch_recipe g) (flights g); recipe_names = g.recipe_names ++ map (launch_name g) (flights g) }

with_launches_is : (g new : Game) → with_launches g ≡ Ok new → launched g ≡ new
unfolding with_launches
with_launches_is g new is =
    let named = after {A = Unit {0}} (unless_some g Twice (flight_taken g)) (λ _. unless_some g Limit (flight_beyond g) ▷ λ _. Ok (launched g)) new is in
    let room = after {A = Unit {0}} (unless_some g Limit (flight_beyond g)) (λ _. Ok (launched g)) new named.2 in
    found_value (launched g) new room.2

limited : (b : Bool) (fault : DumpFault) (g new : Game) → (if b then Err fault else Ok g) ≡ Ok new → g ≡ new
limited true fault g new is = cc
limited false fault g new is = cc

within_is : (g new : Game) → within_limit g ≡ Ok new → g ≡ new
unfolding within_limit
within_is g new is = limited (nat_lt node_limit (node_count (shape_of g))) too_many_variants g new is

with_variants_is : (g new : Game) → with_variants g ≡ Ok new → split g ≡ new
unfolding with_variants
with_variants_is g new is =
    let named = after {A = Unit {0}} (unless_named (first_variant_name g)) (λ _. within_limit (split g) ▷ λ (x : Game). unless_named (first_twice [] x.fluid_names) ▷ λ _. Ok x) new is in
    let room = after (within_limit (split g)) (λ (x : Game). unless_named (first_twice [] x.fluid_names) ▷ λ _. Ok x) new named.2 in
    let twice = after {A = Unit {0}} (unless_named (first_twice [] room.0.fluid_names)) (λ _. Ok room.0) new room.2 in
    within_is (split g) room.0 room.1 ∙ found_value room.0 new twice.2

-- ---- recipes at their places
mapped_at : {A B : Type 0} (f : A → B) (xs : List A) (k : ℕ) (x : A) (other : B) → slice_get xs k ≡ Some x → slice_index_or (map f xs) k other ≡ f x
mapped_at f [] k x other at = cc
mapped_at f (y ∷ ys) zero x other at = let same : y ≡ x = cc in ap f same
mapped_at f (y ∷ ys) (suc k) x other at = mapped_at f ys k x other at

mapped_twice : {A B C : Type 0} (f : A → B) (h : C → A) (ys : List C) (k : ℕ) (y : C) (other : B) → slice_get ys k ≡ Some y → slice_index_or (map f (map h ys)) k other ≡ f (h y)
mapped_twice f h [] k y other at = cc
mapped_twice f h (z ∷ zs) zero y other at = let same : z ≡ y = cc in ap (λ c. f (h c)) same
mapped_twice f h (z ∷ zs) (suc k) y other at = mapped_twice f h zs k y other at

behind_at : {A B C : Type 0} (f : A → B) (h : C → A) (xs : List A) (ys : List C) (k : ℕ) (y : C) (other : B) → slice_get ys k ≡ Some y → slice_index_or (map f (xs ++ map h ys)) (length xs + k) other ≡ f (h y)
behind_at f h [] ys k y other at =
    let same : k ≡ 0 + k = omega arith in
    subst (λ (n : ℕ). slice_index_or (map f (map h ys)) n other ≡ f (h y)) same (mapped_twice f h ys k y other at)
behind_at f h (x ∷ xs) ys k y other at =
    let same : suc (length xs + k) ≡ suc (length xs) + k = omega arith in
    subst (λ (n : ℕ). slice_index_or (f x ∷ map f (xs ++ map h ys)) n other ≡ f (h y)) same (behind_at f h xs ys k y other at)

-- ---- a launch, numbered anew
plain_item : (items : ℕ) (lists : List (List Fraction)) (good : GoodId) → good.0 < items → plain_of items lists good ≡ good
unfolding plain_of
plain_item items lists good item = let is : nat_lt good.0 items ≡ true = grind (arith, nat_tests) in rw is refl

same_product : (g : Game) (numbering : Numbering) (product : Product) → product.good.0 < length g.items → new_product g numbering product ≡ product
unfolding product_made
same_product g numbering product item = rw (no_fluid_at g product.good.0 item) refl

same_products : (g : Game) (numbering : Numbering) (products : List Product) → All (λ (product : Product). product.good.0 < length g.items) products → map (new_product g numbering) (map as_catalyst products) ≡ map as_catalyst products
same_products g numbering [] items = refl
same_products g numbering (product ∷ products) items =
    ap₂ (λ (x : Product) (xs : List Product). x ∷ xs) (same_product g numbering (as_catalyst product) (All-head (λ (p : Product). p.good.0 < length g.items) product products items))
    (same_products g numbering products (All-tail (λ (p : Product). p.good.0 < length g.items) product products items))

abbrev silo_in : Game → Silo → Silo
silo_in g silo = record silo { part = plain_of (length g.items) (temperature_lists g) silo.part }

numbered_launch : (g : Game) (silo : Silo) (cargo : GoodId) (item : Item) → cargo.0 < length g.items → All (λ (product : Product). product.good.0 < length g.items) item.launch
    → new_recipe g (numbering_of (length g.items) (temperature_lists g)) (recipe_with silo cargo item) ≡ recipe_with (silo_in g silo) cargo item
unfolding recipe_with numbering_of
numbered_launch g silo cargo item there items =
    ap₂ (λ (good : GoodId) (products : List Product). record {
      category = silo.category;
      time = (recipe_with silo cargo item).time;
      enabled = true;
      emissions = one_fraction;
      ingredients = one_part good one_fraction ∷ one_part (silo_in g silo).part (whole_fraction (pos silo.parts)) ∷ [];
      products = products;
      launch = Some silo.machine;
    }) (plain_item (length g.items) (temperature_lists g) cargo there) (same_products g (numbering_of (length g.items) (temperature_lists g)) item.launch items)

-- ---- cargo is an item
cargo_items : (g : Game) → All (λ (good : GoodId). good.0 < length g.items) (cargo_in g)
unfolding cargo_of
cargo_items g = found_hold cargo_of (λ (good : GoodId). good.0 < length g.items) g.items one 0 g.items refl
  where
    unless_none : (b : Bool) (k : ℕ) → k < length g.items → IfSome (if b then None else Some (record { 0 = k })) (λ (good : GoodId). good.0 < length g.items)
    unless_none true k within = tt
    unless_none false k within = within

    one : (k : ℕ) (item : Item) → slice_get g.items k ≡ Some item → IfSome (cargo_of k item) (λ (good : GoodId). good.0 < length g.items)
    one k item at = unless_none (length item.launch == 0) k (slice_get_within g.items k item at)

flights_items : (g : Game) (cargo : List GoodId) (silos : List Silo) → All (λ (good : GoodId). good.0 < length g.items) cargo → All (λ (one : Flight). one.cargo.0 < length g.items) (flat_map (λ silo. map (flight silo) cargo) silos)
flights_items g cargo [] items = All-nil (λ (one : Flight). one.cargo.0 < length g.items)
flights_items g cargo (silo ∷ silos) items =
    All-append (λ (one : Flight). one.cargo.0 < length g.items) (map (flight silo) cargo) (flat_map (λ silo. map (flight silo) cargo) silos)
    (All-map (λ (one : Flight). one.cargo.0 < length g.items) (flight silo) cargo items)
    (flights_items g cargo silos items)

cargo_there : (g : Game) (place : ℕ) (one : Flight) → slice_get (flights g) place ≡ Some one → one.cargo.0 < length g.items
unfolding flights
cargo_there g place one at =
    subst (λ (x : Flight). x.cargo.0 < length g.items) (get_or_from_slice_get (flights g) place one one at) (flights_items g (cargo_in g) (silos_in g) (cargo_items g) place one (slice_get_within (flights g) place one at))

-- ---- the launches of the game
placed : {A B C : Type 0} (f : A → B) (h : C → A) (xs : List A) (ys : List C) (k : ℕ) → k < length ys → length xs + k < length (map f (xs ++ map h ys))
placed f h xs ys k within = omega (arith, within, length-map (xs ++ map h ys) f, length-append xs (map h ys), length-map ys h)

part_there : (g : Game) (silo : Silo) (cargo : GoodId) (item : Item) → IsSoundRecipe g (recipe_with silo cargo item) → IsGood g silo.part.0
unfolding recipe_with
part_there g silo cargo item sound =
    let parts : List Part = one_part silo.part (whole_fraction (pos silo.parts)) ∷ [] in
    let behind : All (λ (part : Part). IsGood g part.good.0) parts = All-tail (λ (part : Part). IsGood g part.good.0) (one_part cargo one_fraction) parts sound.ingredients in
    All-head (λ (part : Part). IsGood g part.good.0) (one_part silo.part (whole_fraction (pos silo.parts))) [] behind

silo_there : (g : Game) (silo : Silo) (cargo : GoodId) (item : Item) → IsSoundRecipe g (recipe_with silo cargo item) → silo.machine.0 < length g.machines
unfolding recipe_with
silo_there g silo cargo item sound = some_within (λ m. IsCrafterKind m.kind) g.machines silo.machine.0 sound.launch

one_launch : (base : Game) (place : ℕ) (one : Flight) → IsSound (split (launched base)) → slice_get (flights base) place ≡ Some one → HasLaunch (split (launched base)) base place one
unfolding split launch_recipe recipe_at item_at
one_launch base place one sound at =
    let g = launched base in
    let there = cargo_there base place one at in
    let item : IsSoundItem (split g) (item_at base one.cargo) = All-get_or (IsSoundItem (split g)) base.items one.cargo.0 no_item there sound.items in
    let numbering = numbering_of (length g.items) (temperature_lists g) in
    let is : recipe_at (split g) (record { 0 = length base.recipes + place }) ≡ recipe_with (silo_in g one.silo) one.cargo (item_at base one.cargo) =
    behind_at (new_recipe g numbering) (launch_recipe base) base.recipes (flights base) place one no_recipe at ∙ numbered_launch g one.silo one.cargo (item_at base one.cargo) there item.launch in
    let inside : length base.recipes + place < length (split g).recipes = placed (new_recipe g numbering) (launch_recipe base) base.recipes (flights base) place (slice_get_within (flights base) place one at) in
    let recipe : IsSoundRecipe (split g) (recipe_with (silo_in g one.silo) one.cargo (item_at base one.cargo)) =
    subst (IsSoundRecipe (split g)) is (All-get_or (IsSoundRecipe (split g)) (split g).recipes (length base.recipes + place) no_recipe inside sound.recipes) in
    record {
      silo = silo_in g one.silo;
      machine = refl;
      parts = refl;
      part = λ item. plain_item (length g.items) (temperature_lists g) one.silo.part item;
      launch = record { there = inside; launch = is; cargo_there = there; part_there = part_there (split g) (silo_in g one.silo) one.cargo (item_at base one.cargo) recipe; silo_there = silo_there (split g) (silo_in g one.silo) one.cargo (item_at base one.cargo) recipe };
    }

pub dumped_launches : (dump : List ℕ) (game : Game) → HasGame dump game → IsSound game → HasLaunches dump game
unfolding game_of resolved finished
dumped_launches dump game has sound =
    let read = after (raw_game has.tree) resolved game has.given_is in
    let base = after (linked read.0) finished game read.2 in
    let new = after (with_launches base.0) with_variants game base.2 in
    let is : split (launched base.0) ≡ game = ap split (with_launches_is base.0 new.0 new.1) ∙ with_variants_is new.0 game new.2 in
    record {
      base = base.0;
      of_prototypes = record { draft = read.0; read = record { tree = has.tree; accepted = has.accepted; draft_is = read.1 }; linked_is = base.1 };
      each = λ place one at. subst (λ (g : Game). HasLaunch g base.0 place one) is (one_launch base.0 place one (subst IsSound (sym is) sound) at);
    }
