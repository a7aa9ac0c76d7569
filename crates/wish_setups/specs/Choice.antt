-- Which machine does something, and which fuel it burns. These rules are this project's own.
use Rattle.std.specs.Prelude.{◌≡◌, ℕ, zero, suc, ◌+◌, ◌<◌, ◌==◌, ◌&&◌, ◌||◌, Bool, true, false, not, List, [], ◌∷◌, length, Option, Some, None, option_map, option_and_then, is_some, Result, Ok, Err, slice_get, slice_index_or, if◌then◌else◌}
use Rattle.std.specs.List.{list_any}
use Rattle.std.specs.Ordering.{bool_cmp, is_lt, nat_cmp, on, then_cmp}
use Rattle.std.specs.declared.cmp.Ordering.{Ordering}
use Rattle.fractions.specs.Compare.{compared}
use Rattle.fractions.specs.Fraction.{Fraction, negated, zero_fraction}
use Rattle.plan_base.specs.declared.ids.EntityId.{EntityId}
use Rattle.plan_base.specs.declared.ids.GoodId.{GoodId}
use Rattle.plan_base.specs.declared.shape.Kind.TheVariants.{Machine as MachineNode}
use Rattle.game_types.specs.declared.effects.Effects.{Effects}
use Rattle.game_types.specs.declared.effects.Rates.{Rates}
use Rattle.game_types.specs.declared.effects.Wide.{Wide}
use Rattle.game_types.specs.declared.games.Game.{Game}
use Rattle.game_types.specs.declared.goods.Fluid.{Fluid}
use Rattle.game_types.specs.declared.goods.Fuel.{Fuel}
use Rattle.game_types.specs.declared.goods.Item.{Item}
use Rattle.game_types.specs.declared.machinery.Energy.{Energy}
use Rattle.game_types.specs.declared.machinery.Energy.TheVariants.{Burner}
use Rattle.game_types.specs.declared.machinery.Machine.{Machine}
use Rattle.game_types.specs.declared.machinery.MachineKind.{MachineKind}
use Rattle.game_types.specs.declared.machinery.MachineKind.TheVariants.{Crafter, Drill, Pump as PumpKind, Boiler, Generator, BurnerGenerator, Solar, Lab}
use Rattle.game_types.specs.declared.recipes.Recipe.{Recipe}
use Rattle.game_types.specs.declared.setups.Activity.{Activity}
use Rattle.game_types.specs.declared.setups.Activity.TheVariants.{Craft, Mine, Pump, Generate, Boil, Research}
use Rattle.game_types.specs.declared.setups.Setup.{Setup}
use Rattle.game_types.specs.Making.{holds, takes_fuel}
use Rattle.game_types.specs.Temperatures.{fluid_at}
use Rattle.power_rows.specs.declared.inputs.Input.{Input}
use Rattle.power_rows.specs.declared.inputs.Input.TheVariants.{Fluid as OfFluid}
use Rattle.power_rows.specs.Inputs.{input_of}
use Rattle.table_rows.specs.Columns.{figures_of}
use Rattle.wish_setups.specs.Fitting.{are_there, fits}
use Rattle.wish_setups.specs.Reach.{is_reached}
use Rattle.wish_setups.specs.declared.ranks.Rank.{Rank}
use Rattle.wish_setups.specs.declared.wish.Wish.{Wish}

-- ---- the best of what has a rank
-- a rank comes before another by its place, then where no heat is wasted, then by its heat, then by its machines, and then where nothing is burnt
abbrev pub rank_cmp : Rank → Rank → Ordering
rank_cmp = then_cmp (on (λ r. r.place) nat_cmp) (then_cmp (on (λ r. r.wastes) bool_cmp) (then_cmp (on (λ r. r.heat) compared) (then_cmp (on (λ r. r.machines) compared) (on (λ r. r.burns) bool_cmp))))

abbrev pub comes_before : Rank → Rank → Bool
comes_before a b = is_lt (rank_cmp a b)

-- of the first things the best, with its number: the first of those before which none comes
abbrev pub better : Option (ℕ × Rank) → ℕ → Option Rank → Option (ℕ × Rank)
better best number None = best
better None number (Some rank) = Some (number, rank)
better (Some best) number (Some rank) = if comes_before rank best.1 then Some (number, rank) else Some best

abbrev pub best_below : (ℕ → Option Rank) → ℕ → Option (ℕ × Rank)
best_below ranks zero = None
best_below ranks (suc number) = better (best_below ranks number) number (ranks number)

-- what that is: no thing that has a rank comes before it, and it comes before each such thing of a lower number
pub record IsBest (ranks : ℕ → Option Rank) (count : ℕ) (best : ℕ × Rank) : Type 0 where
  pub below : best.0 < count
  pub ranked : ranks best.0 ≡ Some best.1
  pub least : (number : ℕ) (rank : Rank) → number < count → ranks number ≡ Some rank → comes_before rank best.1 ≡ false
  pub first : (number : ℕ) (rank : Rank) → number < best.0 → ranks number ≡ Some rank → comes_before best.1 rank ≡ true

abbrev pub IsBestBelow : (ℕ → Option Rank) → ℕ → Option (ℕ × Rank) → Type 0
IsBestBelow ranks count None = (number : ℕ) → number < count → ranks number ≡ None
IsBestBelow ranks count (Some best) = IsBest ranks count best

-- ---- the fuel that a burner burns
abbrev pub value_of : Energy → Option Fuel → Option Fraction
value_of energy None = None
value_of energy (Some fuel) = if takes_fuel energy fuel then Some fuel.value else None

abbrev pub fuel_of : Option Item → Option Fuel
fuel_of None = None
fuel_of (Some item) = item.fuel

-- the energy of an item that a burner takes
unfoldable pub value_in : Game → Energy → GoodId → Option Fraction
value_in g energy good = value_of energy (fuel_of (slice_get g.items good.0))

abbrev pub is_import : Wish → GoodId → Bool
is_import wish good = list_any (λ pair. pair.0.0 == good.0) wish.imports

-- a fuel is taken as it is: a source gives it, or the wish imports it
abbrev pub is_raw : Wish → List Bool → GoodId → Bool
is_raw wish mined good = slice_index_or mined good.0 false || is_import wish good

-- one that is taken as it is comes before one that is made, and then the one with more energy
abbrev pub fuel_rank : Bool → Fraction → Rank
fuel_rank raw value = record { place = if raw then 0 else 1; wastes = false; heat = negated value; machines = zero_fraction; burns = false }

abbrev pub rank_of_fuel : Game → Wish → List Bool → Energy → GoodId → Option Rank
rank_of_fuel g wish mined energy good = option_map (fuel_rank (is_raw wish mined good)) (value_in g energy good)

-- the rank of the fuel at a place of a list
abbrev pub rank_at : Game → Wish → List Bool → Energy → List GoodId → ℕ → Option Rank
rank_at g wish mined energy fuels place = option_and_then (rank_of_fuel g wish mined energy) (slice_get fuels place)

abbrev pub good_at : List GoodId → Option (ℕ × Rank) → Option GoodId
good_at fuels None = None
good_at fuels (Some best) = slice_get fuels best.0

-- the best of some fuels
unfoldable pub best_fuel : Game → Wish → List Bool → List GoodId → Energy → Option GoodId
best_fuel g wish mined fuels energy = good_at fuels (best_below (rank_at g wish mined energy fuels) (length fuels))

-- the wish's fuel where the burner takes that, else the best
abbrev pub burner_fuel : Game → Wish → List Bool → List GoodId → Energy → Option GoodId → Option GoodId
burner_fuel g wish mined fuels energy None = best_fuel g wish mined fuels energy
burner_fuel g wish mined fuels energy (Some good) = if is_some (value_in g energy good) then Some good else best_fuel g wish mined fuels energy

abbrev pub is_burner : Energy → Bool
is_burner (Burner categories effectivity) = true
is_burner energy = false

unfoldable pub fuel_for : Game → Wish → List Bool → List GoodId → Energy → Option GoodId
fuel_for g wish mined fuels energy = if is_burner energy then burner_fuel g wish mined fuels energy wish.fuel else None

-- ---- the machine that does something
-- a machine is of a kind that does it; what is refused for other reasons doesn't fit
abbrev pub crafts_in : MachineKind → ℕ → Bool
crafts_in (Crafter speed categories fixed) category = holds categories category
crafts_in kind category = false

-- a recipe that launches rockets is crafted by its silo
abbrev pub crafts : EntityId → MachineKind → ℕ → Option EntityId → Bool
crafts machine kind category None = crafts_in kind category
crafts machine kind category (Some silo) = silo.0 == machine.0

abbrev pub crafts_some : EntityId → MachineKind → Option Recipe → Bool
crafts_some machine kind None = false
crafts_some machine kind (Some recipe) = crafts machine kind recipe.category recipe.launch

abbrev pub is_drill : MachineKind → Bool
is_drill (Drill speed categories fluid_box) = true
is_drill kind = false

abbrev pub pumps : GoodId → MachineKind → Bool
pumps good (PumpKind fluid speed) = fluid.0 == good.0
pumps good kind = false

abbrev pub is_output : GoodId → Option GoodId → Bool
is_output good None = false
is_output good (Some output) = output.0 == good.0

abbrev pub boils : GoodId → MachineKind → Bool
boils good (Boiler input output temperature) = is_output good output
boils good kind = false

abbrev pub is_none : List GoodId → Bool
is_none [] = true
is_none (good ∷ goods) = false

-- electricity is made of a fluid that is named, or else of a fuel or of nothing
abbrev pub generates : List GoodId → MachineKind → Bool
generates at (Generator input effectivity per_tick max_temperature burns output) = not (is_none at)
generates at (BurnerGenerator output) = is_none at
generates at (Solar production) = is_none at
generates at kind = false

abbrev pub is_lab : MachineKind → Bool
is_lab (Lab inputs speed) = true
is_lab kind = false

abbrev pub may_do : Game → EntityId → MachineKind → Activity → List GoodId → Bool
may_do g machine kind (Craft recipe) at = crafts_some machine kind (slice_get g.recipes recipe.0)
may_do g machine kind (Mine source) at = is_drill kind
may_do g machine kind (Pump good) at = pumps good kind
may_do g machine kind Generate at = generates at kind
may_do g machine kind (Boil good) at = boils good kind
may_do g machine kind (Research tech) at = is_lab kind

-- a set-up with no modules and no beacons
abbrev pub bare_setup : Activity → EntityId → Option GoodId → List GoodId → Setup
bare_setup activity machine fuel at = record { activity = activity; machine = machine; fuel = fuel; modules = []; beacons = []; at = at }

-- what makes electricity takes in the fluid that is named, if any
abbrev pub is_input : GoodId → Input → Bool
is_input fluid (OfFluid good) = good.0 == fluid.0
is_input fluid input = false

unfoldable pub takes_in : Game → Setup → GoodId → Bool
takes_in g setup fluid = are_there g setup && is_input fluid (input_of g setup)

abbrev pub takes_first : Game → Setup → Activity → List GoodId → Bool
takes_first g setup Generate (fluid ∷ fluids) = takes_in g setup fluid
takes_first g setup activity at = true

-- how many machines one craft a second takes, where the set-up can stand in a table and no number is too wide
abbrev pub machines_in : Result (Effects × Rates × Fraction) Wide → Option Fraction
machines_in (Ok figures) = Some figures.1.machines
machines_in (Err wide) = None

unfoldable pub machines_of : Game → Setup → Option Fraction
machines_of g setup = if fits g setup then machines_in (figures_of g setup) else None

unfoldable pub count_of : Game → Setup → Option Fraction
count_of g setup = if takes_first g setup setup.activity setup.at then machines_of g setup else None

-- a generator wastes heat of a fluid that is hotter than the hottest of which it makes use; of those that don't the coolest comes
-- first, and of those that do the hottest
abbrev pub is_hotter : Option Fluid → Fraction → Bool
is_hotter None temperature = false
is_hotter (Some fluid) temperature = is_lt (compared temperature fluid.at)

abbrev pub wastes_heat : Game → List GoodId → MachineKind → Bool
wastes_heat g (fluid ∷ fluids) (Generator input effectivity per_tick max_temperature burns output) = not burns && is_hotter (fluid_at g fluid.0) max_temperature
wastes_heat g at kind = false

abbrev pub heat_by : Bool → Fraction → Fraction
heat_by wastes temperature = if wastes then negated temperature else temperature

abbrev pub heat_of : Bool → MachineKind → Fraction
heat_of wastes (Generator input effectivity per_tick max_temperature burns output) = if burns then zero_fraction else heat_by wastes max_temperature
heat_of wastes kind = zero_fraction

-- the place of a machine among those of the wish, behind the last where it is none of them
abbrev pub place_among : List EntityId → ℕ → ℕ
place_among [] machine = 0
place_among (other ∷ others) machine = if other.0 == machine then 0 else 1 + place_among others machine

-- An earlier machine of the wish comes first; then a generator by the heat; then the one of which fewest do one craft a second; and then
-- one that burns nothing.
abbrev pub machine_rank : Game → Wish → List GoodId → EntityId → MachineKind → Option GoodId → Fraction → Rank
machine_rank g wish at machine kind fuel machines = record {
  place = place_among wish.by machine.0;
  wastes = wastes_heat g at kind;
  heat = heat_of (wastes_heat g at kind) kind;
  machines = machines;
  burns = is_some fuel;
}

abbrev pub rank_with : Game → Wish → Activity → List GoodId → EntityId → MachineKind → Option GoodId → Option Rank
rank_with g wish activity at machine kind fuel = option_map (machine_rank g wish at machine kind fuel) (count_of g (bare_setup activity machine fuel at))

abbrev pub rank_of_kind : Game → Wish → List Bool → List GoodId → Activity → List GoodId → EntityId → Option Machine → Option Rank
rank_of_kind g wish mined fuels activity at number None = None
rank_of_kind g wish mined fuels activity at number (Some machine) =
    if may_do g number machine.kind activity at then rank_with g wish activity at number machine.kind (fuel_for g wish mined fuels machine.energy) else None

-- the rank of a machine that is reached and does it
unfoldable pub rank_of_machine : Game → List Bool → Wish → List Bool → List GoodId → Activity → List GoodId → ℕ → Option Rank
rank_of_machine g marks wish mined fuels activity at number =
    if is_reached g marks MachineNode number then rank_of_kind g wish mined fuels activity at (record { 0 = number }) (slice_get g.machines number) else None

-- the best of the reached machines that do it
abbrev pub best_machine : Game → List Bool → Wish → List Bool → List GoodId → Activity → List GoodId → Option (ℕ × Rank)
best_machine g marks wish mined fuels activity at = best_below (rank_of_machine g marks wish mined fuels activity at) (length g.machines)

-- its fuel
abbrev pub fuel_in : Game → Wish → List Bool → List GoodId → Option Machine → Option GoodId
fuel_in g wish mined fuels None = None
fuel_in g wish mined fuels (Some machine) = fuel_for g wish mined fuels machine.energy

-- a set-up of a machine that does something with a fuel and of these fluids, whatever modules and beacons it has
pub record IsDressed (activity : Activity) (machine : EntityId) (fuel : Option GoodId) (at : List GoodId) (setup : Setup) : Type 0 where
  pub does : setup.activity ≡ activity
  pub by_machine : setup.machine ≡ machine
  pub burns : setup.fuel ≡ fuel
  pub of_fluids : setup.at ≡ at

abbrev pub DoesBy : Game → Wish → List Bool → List GoodId → Activity → List GoodId → ℕ → Setup → Type 0
DoesBy g wish mined fuels activity at number setup = IsDressed activity (record { 0 = number }) (fuel_in g wish mined fuels (slice_get g.machines number)) at setup

-- the set-up of the best machine, where any does it
abbrev pub IsBestSetup : Game → Wish → List Bool → List GoodId → Activity → List GoodId → Option (ℕ × Rank) → Option Setup → Type 0
IsBestSetup g wish mined fuels activity at None None = Unit {0}
IsBestSetup g wish mined fuels activity at (Some best) (Some setup) = DoesBy g wish mined fuels activity at best.0 setup
IsBestSetup g wish mined fuels activity at None (Some setup) = ⊥
IsBestSetup g wish mined fuels activity at (Some best) None = ⊥
