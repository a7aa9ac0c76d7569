-- The launches of rockets as recipes, behind the recipes of the dump: what a silo sends up and what comes back. After the
-- prototype documentation of Factorio 1.1 (`rocket_parts_required`, `rocket_launch_products`); that a launch is a recipe of its
-- silo, and its name, are this project's own.
use Rattle.std.specs.Prelude.{◌≡◌, ◌<◌, ℕ, ◌+◌, ◌-◌, ◌==◌, ◌||◌, Bool, true, eqb, pos, List, [], ◌∷◌, ◌++◌, Option, Some, None, Result, Ok, Err, codes, is_some, length, map, option_and_then, slice_get, slice_index_or, if◌then◌else◌}
use Rattle.std.specs.List.{cons_option, flat_map, starts_with}
use Rattle.fractions.specs.Fraction.{Fraction, zero_fraction, one_fraction, whole_fraction}
use Rattle.plan_base.specs.Shape.{node_count}
use Rattle.plan_base.specs.declared.ids.EntityId.{EntityId}
use Rattle.plan_base.specs.declared.ids.GoodId.{GoodId}
use Rattle.plan_base.specs.declared.ids.RecipeId.{RecipeId}
use Rattle.name_table.specs.Names.{place_of}
use Rattle.prototype_fields.specs.declared.fault.FieldCode.{FieldCode}
use Rattle.prototype_fields.specs.declared.fault.FieldCode.TheVariants.{Twice, Limit}
use Rattle.prototype_fields.specs.declared.names.Key.TheVariants.{RocketPartsRequired}
use Rattle.prototype_fields.specs.declared.names.Within.TheVariants.{Prototype}
use Rattle.craft_reader.specs.Faults.{fault_in}
use Rattle.craft_reader.specs.declared.fault.DumpFault.{DumpFault}
use Rattle.dump_reader.specs.Dump.{◌▷◌}
use Rattle.game_types.specs.Lookups.{item_at, recipe_at}
use Rattle.game_types.specs.Nodes.{node_limit, shape_of}
use Rattle.game_types.specs.Sound.{IsCrafter, IsGood, IsItem}
use Rattle.game_types.specs.declared.games.Game.{Game}
use Rattle.game_types.specs.declared.goods.Item.{Item}
use Rattle.game_types.specs.declared.machinery.Machine.{Machine}
use Rattle.game_types.specs.declared.machinery.MachineKind.{MachineKind}
use Rattle.game_types.specs.declared.machinery.MachineKind.TheVariants.{Crafter}
use Rattle.game_types.specs.declared.recipes.Part.{Part}
use Rattle.game_types.specs.declared.recipes.Product.{Product}
use Rattle.game_types.specs.declared.recipes.Recipe.{Recipe}
use Rattle.rocket_launches.specs.declared.adding.Added.{Added}
use Rattle.rocket_launches.specs.declared.adding.Added.TheVariants.{All, Taken, NoMemory}
use Rattle.rocket_launches.specs.declared.silos.Flight.{Flight}
use Rattle.rocket_launches.specs.declared.silos.Silo.{Silo}

-- ---- silos: machines that put parts together to a rocket. They are fixed to the recipe of the part, which gives it first
abbrev pub fixed_recipe : MachineKind → Option RecipeId
fixed_recipe (Crafter speed categories fixed) = fixed
fixed_recipe kind = None

abbrev pub silo_with : EntityId → ℕ → Recipe → List Product → Option Silo
silo_with machine parts recipe [] = None
silo_with machine parts recipe (first ∷ rest) = Some (record { machine = machine; category = recipe.category; part = first.good; parts = parts })

abbrev pub silo_fixed_to : Game → EntityId → ℕ → Option RecipeId → Option Silo
silo_fixed_to g machine parts None = None
silo_fixed_to g machine parts (Some fixed) = silo_with machine parts (recipe_at g fixed) (recipe_at g fixed).products

unfoldable pub silo_of : Game → ℕ → Machine → Option Silo
silo_of g number machine = if machine.parts == 0 then None else silo_fixed_to g (record { 0 = number }) machine.parts (fixed_recipe machine.kind)

-- ---- cargo: an item whose launch brings something back
unfoldable pub cargo_of : ℕ → Item → Option GoodId
cargo_of number item = if length item.launch == 0 then None else Some (record { 0 = number })

-- ---- flights: each silo with each cargo, both in order
-- what is found of things numbered from the first on
unfoldable pub found_from : {A B : Type 0} → (ℕ → A → Option B) → ℕ → List A → List B
found_from find number [] = []
found_from find number (thing ∷ things) = cons_option (find number thing) (found_from find (number + 1) things)

abbrev pub flight : Silo → GoodId → Flight
flight silo cargo = record { silo = silo; cargo = cargo }

abbrev pub flights_of : List Silo → List GoodId → List Flight
flights_of silos cargo = flat_map (λ silo. map (flight silo) cargo) silos

abbrev pub silos_in : Game → List Silo
silos_in g = found_from (silo_of g) 0 g.machines

abbrev pub cargo_in : Game → List GoodId
cargo_in g = found_from cargo_of 0 g.items

unfoldable pub flights : Game → List Flight
flights g = flights_of (silos_in g) (cargo_in g)

-- of a silo and an item that are there
pub record IsThere (g : Game) (flight : Flight) : Type 0 where
  pub silo : IsCrafter g flight.silo.machine
  pub part : IsGood g flight.silo.part.0
  pub cargo : IsItem g flight.cargo.0

-- ---- the recipe of a launch: one item and the parts go up, and productivity adds nothing to what comes back
abbrev pub one_part : GoodId → Fraction → Part
one_part good amount = record { good = good; amount = amount; low = None; high = None }

abbrev pub as_catalyst : Product → Product
as_catalyst product = record product { catalyst = product.high }

unfoldable pub recipe_with : Silo → GoodId → Item → Recipe
recipe_with silo cargo item = record {
  category = silo.category;
  time = zero_fraction;
  enabled = true;
  emissions = one_fraction;
  ingredients = one_part cargo one_fraction ∷ one_part silo.part (whole_fraction (pos silo.parts)) ∷ [];
  products = map as_catalyst item.launch;
  launch = Some silo.machine;
}

unfoldable pub launch_recipe : Game → Flight → Recipe
launch_recipe g flight = recipe_with flight.silo flight.cargo (item_at g flight.cargo)

-- ---- its name, `launch:SILO:ITEM`
abbrev pub name_at : List (List ℕ) → ℕ → List ℕ
name_at names number = slice_index_or names number []

unfoldable pub launch_name : Game → Flight → List ℕ
launch_name g flight = codes "launch:" ++ (name_at g.machine_names flight.silo.machine.0 ++ (58 ∷ name_at g.item_names flight.cargo.0))

-- ---- faults: a name that a recipe of the dump or an earlier launch has, and after that a launch for which there is no node.
-- There are fewer names of recipes than nodes
abbrev pub is_taken : List (List ℕ) → List (List ℕ) → List ℕ → Bool
is_taken dumped earlier name = is_some (place_of dumped name) || is_some (place_of earlier name)

-- the place of the first name that is taken
unfoldable pub first_taken : List (List ℕ) → List (List ℕ) → List (List ℕ) → Option ℕ
first_taken dumped earlier [] = None
first_taken dumped earlier (name ∷ names) = if is_taken dumped earlier name then Some (length earlier) else first_taken dumped (earlier ++ name ∷ []) names

-- names are added behind others up to the first that is taken
abbrev pub AddsNames : List (List ℕ) → List (List ℕ) → List (List ℕ) → Added → Type 0
AddsNames old now names All = (first_taken old [] names ≡ None) × (now ≡ old ++ names)
AddsNames old now names (Taken place) = (first_taken old [] names ≡ Some place) × (place < length names)
AddsNames old now names NoMemory = Unit {0}

-- a name that begins as that of a launch
unfoldable pub begins_as_launch : List ℕ → Bool
begins_as_launch name = starts_with eqb name (codes "launch:")

unfoldable pub flight_taken : Game → Option Flight
flight_taken g = option_and_then (slice_get (flights g)) (first_taken g.recipe_names [] (map (launch_name g) (flights g)))

unfoldable pub flight_beyond : Game → Option Flight
flight_beyond g = slice_get (flights g) (node_limit - node_count (shape_of g))

unfoldable pub launch_fault : Game → FieldCode → Flight → DumpFault
launch_fault g code flight = fault_in (codes "rocket-silo") (name_at g.machine_names flight.silo.machine.0) (record { code = code; within = Prototype; key = Some RocketPartsRequired })

abbrev pub unless_some : Game → FieldCode → Option Flight → Result (Unit {0}) DumpFault
unless_some g code None = Ok tt
unless_some g code (Some flight) = Err (launch_fault g code flight)

-- ---- the game with its launches
unfoldable pub with_launches : Game → Result Game DumpFault
with_launches g =
    unless_some g Twice (flight_taken g) ▷ λ _.
    unless_some g Limit (flight_beyond g) ▷ λ _.
    Ok (record g { recipes = g.recipes ++ map (launch_recipe g) (flights g); recipe_names = g.recipe_names ++ map (launch_name g) (flights g) })
