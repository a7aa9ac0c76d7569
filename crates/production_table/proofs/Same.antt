-- A game with other recipes and technologies of the same kind is as good for a set-up.
use Rattle.std.proofs.Common.{◌≡◌, ◌∙◌, ◌<◌, ℕ, List, [], ◌∷◌, length, refl, sym, ap, subst}
use Rattle.std.specs.Prelude.{Bool, true, false, not, ◌&&◌, Option, Some, None, is_some, Result, Ok, Err, slice_index_or, if◌then◌else◌}
use Rattle.std.specs.List.{list_all}
use Rattle.std.proofs.lemmas.List.Elements.{All-weaker}
use Rattle.fractions.specs.Fraction.{Fraction}
use Rattle.plan_base.specs.declared.ids.EntityId.{EntityId}
use Rattle.plan_base.specs.declared.ids.GoodId.{GoodId}
use Rattle.plan_base.specs.declared.ids.RecipeId.{RecipeId}
use Rattle.game_types.specs.declared.goods.Fluid.{Fluid}
use Rattle.game_types.specs.declared.goods.Fuel.{Fuel}
use Rattle.game_types.specs.declared.machinery.MachineKind.{MachineKind}
use Rattle.game_types.specs.declared.machinery.MachineKind.TheVariants.{Crafter, Drill, Pump as PumpKind, Boiler, Generator, BurnerGenerator, Solar, Reactor, Lab, Beacon}
use Rattle.game_types.specs.declared.recipes.Part.{Part}
use Rattle.game_types.specs.declared.recipes.Recipe.{Recipe}
use Rattle.game_types.specs.declared.refusals.MachineFault.TheVariants.{Category, Fixed}
use Rattle.game_types.specs.declared.research.Tech.{Tech}
use Rattle.game_types.specs.declared.setups.Activity.{Activity}
use Rattle.game_types.specs.declared.setups.Activity.TheVariants.{Craft, Mine, Pump, Generate, Boil, Research}
use Rattle.game_types.specs.declared.setups.Setup.{Setup}
use Rattle.game_types.specs.declared.games.Game.{Game}
use Rattle.game_types.specs.Beacons.{beacon_module_fits, beacon_modules_fit, checked_beacons, group_fits, group_modules_fit}
use Rattle.game_types.specs.Fuels.{burnt_in, fuel_of_good, fuel_use_of, setup_fuel}
use Rattle.game_types.specs.Lookups.{item_at, machine_at, module_at, no_recipe, recipe_at, source_at}
use Rattle.game_types.specs.Making.{holds, is_fixed_to_another}
use Rattle.game_types.specs.Modules.{checked_modules, module_fits, modules_fit}
use Rattle.game_types.specs.Rates.{checked_machine, crafts, crafts_or_launches, does as machine_does}
use Rattle.game_types.specs.Sound.{IsSoundActivity, IsSoundGroup, IsSoundSetup}
use Rattle.game_types.specs.Steps.{◌▸◌}
use Rattle.game_types.specs.Temperatures.{choice_of, coolest_fit, fluid_at, is_base, is_fit}
use Rattle.power_rows.specs.declared.inputs.Input.{Input}
use Rattle.power_rows.specs.declared.inputs.Input.TheVariants.{None as NoInput, Fluid as OfFluid, Missing}
use Rattle.power_rows.specs.Inputs.{filtered, fluid_in, fluid_of_input, input_of, or_good, taken_in}
use Rattle.power_rows.specs.Power.{checked_power, gives_nothing, makes, power_fits}
use Rattle.research_rows.specs.declared.labs.LabFault.TheVariants.{Category as NoLab}
use Rattle.research_rows.specs.Research.{checked_lab, lab_fits, no_tech, researches, takes, tech_at}
use Rattle.table_rows.specs.declared.faults.SetupFault.{SetupFault}
use Rattle.table_rows.specs.declared.faults.SetupFault.TheVariants.{Temperature, Machine, Power, Lab, Fuel as OfFuel, Modules, Beacons}
use Rattle.table_rows.specs.Setups.{checked_fits, checked_rest, checked_setup, does, has_fit, has_fits, is_there, refused, IsFitting}

abbrev pub changed_game : Game → List Recipe → List Tech → Game
changed_game g recipes techs = record g { recipes = recipes; techs = techs }

-- as many, of the same categories and launches; the ingredients have fits where they had, and technologies take the same packs
pub record Keeps (g : Game) (setup : Setup) (recipes : List Recipe) (techs : List Tech) : Type 0 where
  pub as_many : length recipes ≡ length g.recipes
  pub as_many_techs : length techs ≡ length g.techs
  pub category : (n : ℕ) → (slice_index_or recipes n no_recipe).category ≡ (slice_index_or g.recipes n no_recipe).category
  pub launch : (n : ℕ) → (slice_index_or recipes n no_recipe).launch ≡ (slice_index_or g.recipes n no_recipe).launch
  pub fits : (n : ℕ) → list_all (has_fit g setup) (slice_index_or g.recipes n no_recipe).ingredients ≡ true → list_all (has_fit g setup) (slice_index_or recipes n no_recipe).ingredients ≡ true
  pub packs : (n : ℕ) → (slice_index_or techs n no_tech).ingredients ≡ (slice_index_or g.techs n no_tech).ingredients

crafts_same : (kind : MachineKind) (number : RecipeId) (r s : Recipe) → r.category ≡ s.category → crafts kind number r ≡ crafts kind number s
crafts_same (Crafter speed categories fixed) number r s e = ap (λ (c : ℕ). if not (holds categories c) then Err Category else if is_fixed_to_another fixed number.0 then Err Fixed else Ok tt) e
crafts_same (Drill speed categories fluid_box) number r s e = refl
crafts_same (PumpKind fluid speed) number r s e = refl
crafts_same (Boiler input output temperature) number r s e = refl
crafts_same (Generator input effectivity per_tick max_temperature burns output) number r s e = refl
crafts_same (BurnerGenerator output) number r s e = refl
crafts_same (Solar production) number r s e = refl
crafts_same Reactor number r s e = refl
crafts_same (Lab inputs speed) number r s e = refl
crafts_same (Beacon effectivity) number r s e = refl

launches_same : (machine : EntityId) (kind : MachineKind) (number : RecipeId) (r s : Recipe) (o : Option EntityId) → r.category ≡ s.category → crafts_or_launches machine kind number r o ≡ crafts_or_launches machine kind number s o
launches_same machine kind number r s None e = crafts_same kind number r s e
launches_same machine kind number r s (Some silo) e = refl

researches_same : (kind : MachineKind) (t u : Tech) → t.ingredients ≡ u.ingredients → researches kind t ≡ researches kind u
researches_same (Lab inputs speed) t u e = ap (λ (parts : List (GoodId × Fraction)). list_all (λ part. takes inputs part.0) parts) e
researches_same (Crafter speed categories fixed) t u e = refl
researches_same (Drill speed categories fluid_box) t u e = refl
researches_same (PumpKind fluid speed) t u e = refl
researches_same (Boiler input output temperature) t u e = refl
researches_same (Generator input effectivity per_tick max_temperature burns output) t u e = refl
researches_same (BurnerGenerator output) t u e = refl
researches_same (Solar production) t u e = refl
researches_same Reactor t u e = refl
researches_same (Beacon effectivity) t u e = refl

abbrev if_there : Bool → Result (Unit {0}) SetupFault
if_there b = if b then Ok tt else Err Temperature

there : (b : Bool) (r : Result (Unit {0}) SetupFault) → (if_there b ▸ λ _. r) ≡ Ok tt → (b ≡ true) × (r ≡ Ok tt)
there true r h = (refl, h)
there false r h = absurd (cc)

both : (b : Bool) (r : Result (Unit {0}) SetupFault) → b ≡ true → r ≡ Ok tt → (if_there b ▸ λ _. r) ≡ Ok tt
both true r h k = k
both false r h k = absurd (cc)

choice_same : (g : Game) (recipes : List Recipe) (techs : List Tech) (at : List GoodId) (good : ℕ) (low high : Option Fraction) → choice_of (changed_game g recipes techs) at good low high ≡ choice_of g at good low high
unfolding choice_of is_fit is_base fluid_at coolest_fit
choice_same g recipes techs at good low high = refl

all_fit_same : (g : Game) (setup : Setup) (recipes : List Recipe) (techs : List Tech) (parts : List Part) → list_all (has_fit (changed_game g recipes techs) setup) parts ≡ list_all (has_fit g setup) parts
all_fit_same g setup recipes techs [] = refl
all_fit_same g setup recipes techs (part ∷ parts) =
    ap (λ (o : Option GoodId). is_some o && list_all (has_fit (changed_game g recipes techs) setup) parts) (choice_same g recipes techs setup.at part.good.0 part.low part.high)
    ∙ ap (λ (b : Bool). has_fit g setup part && b) (all_fit_same g setup recipes techs parts)

filtered_same : (g : Game) (recipes : List Recipe) (techs : List Tech) (at : List GoodId) (filter : Option GoodId) → filtered (changed_game g recipes techs) at filter ≡ filtered g at filter
filtered_same g recipes techs at (Some filter) = ap (λ (o : Option GoodId). OfFluid (or_good filter o)) (choice_same g recipes techs at filter.0 None None)
filtered_same g recipes techs at None = refl

taken_same : (g : Game) (recipes : List Recipe) (techs : List Tech) (at : List GoodId) (kind : MachineKind) → taken_in (changed_game g recipes techs) at kind ≡ taken_in g at kind
taken_same g recipes techs at (Boiler input output temperature) = filtered_same g recipes techs at input
taken_same g recipes techs at (Generator input effectivity per_tick max_temperature burns output) = filtered_same g recipes techs at input
taken_same g recipes techs at (Crafter speed categories fixed) = refl
taken_same g recipes techs at (Drill speed categories fluid_box) = refl
taken_same g recipes techs at (PumpKind fluid speed) = refl
taken_same g recipes techs at (BurnerGenerator output) = refl
taken_same g recipes techs at (Solar production) = refl
taken_same g recipes techs at Reactor = refl
taken_same g recipes techs at (Lab inputs speed) = refl
taken_same g recipes techs at (Beacon effectivity) = refl

input_same : (g : Game) (setup : Setup) (recipes : List Recipe) (techs : List Tech) → input_of (changed_game g recipes techs) setup ≡ input_of g setup
unfolding input_of machine_at
input_same g setup recipes techs = taken_same g recipes techs setup.at (machine_at g setup.machine).kind

fluid_of_same : (g : Game) (recipes : List Recipe) (techs : List Tech) (input : Input) → fluid_of_input (changed_game g recipes techs) input ≡ fluid_of_input g input
unfolding fluid_at
fluid_of_same g recipes techs (OfFluid good) = refl
fluid_of_same g recipes techs NoInput = refl
fluid_of_same g recipes techs Missing = refl

fluid_same : (g : Game) (setup : Setup) (recipes : List Recipe) (techs : List Tech) → fluid_in (changed_game g recipes techs) setup ≡ fluid_in g setup
unfolding fluid_in
fluid_same g setup recipes techs = ap (fluid_of_input (changed_game g recipes techs)) (input_same g setup recipes techs) ∙ fluid_of_same g recipes techs (input_of g setup)

power_same : (g : Game) (setup : Setup) (recipes : List Recipe) (techs : List Tech) → checked_power (changed_game g recipes techs) setup ≡ checked_power g setup
unfolding checked_power machine_at
power_same g setup recipes techs =
    ap (λ (fluid : Fluid). power_fits (makes (machine_at g setup.machine).kind setup.activity) (gives_nothing fluid (machine_at g setup.machine).usage (machine_at g setup.machine).kind)) (fluid_same g setup recipes techs)

lab_fits_same : (g : Game) (setup : Setup) (recipes : List Recipe) (techs : List Tech) (kind : MachineKind) (activity : Activity) → Keeps g setup recipes techs → lab_fits (changed_game g recipes techs) kind activity ≡ lab_fits g kind activity
unfolding tech_at
lab_fits_same g setup recipes techs kind (Research tech) k = researches_same kind (slice_index_or techs tech.0 no_tech) (slice_index_or g.techs tech.0 no_tech) (k.packs tech.0)
lab_fits_same g setup recipes techs kind (Craft recipe) k = refl
lab_fits_same g setup recipes techs kind (Mine source) k = refl
lab_fits_same g setup recipes techs kind (Pump good) k = refl
lab_fits_same g setup recipes techs kind Generate k = refl
lab_fits_same g setup recipes techs kind (Boil good) k = refl

lab_same : (g : Game) (setup : Setup) (recipes : List Recipe) (techs : List Tech) → Keeps g setup recipes techs → checked_lab (changed_game g recipes techs) setup ≡ checked_lab g setup
unfolding checked_lab machine_at
lab_same g setup recipes techs k = ap (λ (b : Bool). if b then Ok tt else Err NoLab) (lab_fits_same g setup recipes techs (machine_at g setup.machine).kind setup.activity k)

machine_does_same : (g : Game) (setup : Setup) (recipes : List Recipe) (techs : List Tech) (kind : MachineKind) (activity : Activity) → Keeps g setup recipes techs
    → machine_does (changed_game g recipes techs) setup.machine kind activity ≡ machine_does g setup.machine kind activity
unfolding recipe_at source_at
machine_does_same g setup recipes techs kind (Craft recipe) k =
    launches_same setup.machine kind recipe (slice_index_or recipes recipe.0 no_recipe) (slice_index_or g.recipes recipe.0 no_recipe) (slice_index_or recipes recipe.0 no_recipe).launch (k.category recipe.0)
    ∙ ap (λ (o : Option EntityId). crafts_or_launches setup.machine kind recipe (slice_index_or g.recipes recipe.0 no_recipe) o) (k.launch recipe.0)
machine_does_same g setup recipes techs kind (Mine source) k = refl
machine_does_same g setup recipes techs kind (Pump good) k = refl
machine_does_same g setup recipes techs kind Generate k = refl
machine_does_same g setup recipes techs kind (Boil good) k = refl
machine_does_same g setup recipes techs kind (Research tech) k = refl

machine_same : (g : Game) (setup : Setup) (recipes : List Recipe) (techs : List Tech) → Keeps g setup recipes techs → checked_machine (changed_game g recipes techs) setup ≡ checked_machine g setup
unfolding checked_machine machine_at
machine_same g setup recipes techs k = machine_does_same g setup recipes techs (machine_at g setup.machine).kind setup.activity k

does_same : (g : Game) (setup : Setup) (recipes : List Recipe) (techs : List Tech) (activity : Activity) → Keeps g setup recipes techs → does (changed_game g recipes techs) setup activity ≡ does g setup activity
does_same g setup recipes techs Generate k = ap (refused Power) (power_same g setup recipes techs)
does_same g setup recipes techs (Boil good) k = ap (refused Power) (power_same g setup recipes techs)
does_same g setup recipes techs (Research tech) k = ap (refused Lab) (lab_same g setup recipes techs k)
does_same g setup recipes techs (Craft recipe) k = ap (refused Machine) (machine_same g setup recipes techs k)
does_same g setup recipes techs (Mine source) k = ap (refused Machine) (machine_same g setup recipes techs k)
does_same g setup recipes techs (Pump good) k = ap (refused Machine) (machine_same g setup recipes techs k)

fuel_of_same : (g : Game) (recipes : List Recipe) (techs : List Tech) (fuel : Option GoodId) → fuel_of_good (changed_game g recipes techs) fuel ≡ fuel_of_good g fuel
unfolding item_at
fuel_of_same g recipes techs None = refl
fuel_of_same g recipes techs (Some good) = refl

fuel_same : (g : Game) (setup : Setup) (recipes : List Recipe) (techs : List Tech) → fuel_use_of (changed_game g recipes techs) setup ≡ fuel_use_of g setup
unfolding fuel_use_of setup_fuel machine_at
fuel_same g setup recipes techs = ap (λ (o : Option Fuel). burnt_in (machine_at g setup.machine).energy setup.fuel o) (fuel_of_same g recipes techs setup.fuel)

modules_same : (g : Game) (setup : Setup) (recipes : List Recipe) (techs : List Tech) → checked_modules (changed_game g recipes techs) setup ≡ checked_modules g setup
unfolding checked_modules modules_fit module_fits module_at item_at machine_at
modules_same g setup recipes techs = refl

beacons_same : (g : Game) (setup : Setup) (recipes : List Recipe) (techs : List Tech) → checked_beacons (changed_game g recipes techs) setup ≡ checked_beacons g setup
unfolding checked_beacons group_fits group_modules_fit beacon_modules_fit beacon_module_fits module_fits module_at item_at machine_at
beacons_same g setup recipes techs = refl

rest_same : (g : Game) (setup : Setup) (recipes : List Recipe) (techs : List Tech) → checked_rest (changed_game g recipes techs) setup ≡ checked_rest g setup
unfolding checked_rest
rest_same g setup recipes techs =
    ap (λ r. refused OfFuel r ▸ λ _. refused Modules (checked_modules (changed_game g recipes techs) setup) ▸ λ _. refused Beacons (checked_beacons (changed_game g recipes techs) setup)) (fuel_same g setup recipes techs)
    ∙ ap (λ r. refused OfFuel (fuel_use_of g setup) ▸ λ _. refused Modules r ▸ λ _. refused Beacons (checked_beacons (changed_game g recipes techs) setup)) (modules_same g setup recipes techs)
    ∙ ap (λ r. refused OfFuel (fuel_use_of g setup) ▸ λ _. refused Modules (checked_modules g setup) ▸ λ _. refused Beacons r) (beacons_same g setup recipes techs)

fits_kept : (g : Game) (setup : Setup) (recipes : List Recipe) (techs : List Tech) (activity : Activity) → Keeps g setup recipes techs → has_fits g setup activity ≡ true → has_fits (changed_game g recipes techs) setup activity ≡ true
unfolding recipe_at
fits_kept g setup recipes techs (Craft recipe) k h = all_fit_same g setup recipes techs (slice_index_or recipes recipe.0 no_recipe).ingredients ∙ k.fits recipe.0 h
fits_kept g setup recipes techs Generate k h = ap is_there (input_same g setup recipes techs) ∙ h
fits_kept g setup recipes techs (Boil good) k h = ap is_there (input_same g setup recipes techs) ∙ h
fits_kept g setup recipes techs (Mine source) k h = refl
fits_kept g setup recipes techs (Pump good) k h = refl
fits_kept g setup recipes techs (Research tech) k h = refl

checked_kept : (g : Game) (setup : Setup) (recipes : List Recipe) (techs : List Tech) → Keeps g setup recipes techs → checked_setup g setup ≡ Ok tt → checked_setup (changed_game g recipes techs) setup ≡ Ok tt
unfolding checked_setup checked_fits
checked_kept g setup recipes techs k h =
    let were = there (has_fits g setup setup.activity) (does g setup setup.activity ▸ λ _. checked_rest g setup) h in
    both (has_fits (changed_game g recipes techs) setup setup.activity) (does (changed_game g recipes techs) setup setup.activity ▸ λ _. checked_rest (changed_game g recipes techs) setup)
    (fits_kept g setup recipes techs setup.activity k were.0)
    (ap (λ (r : Result (Unit {0}) SetupFault). r ▸ λ _. checked_rest (changed_game g recipes techs) setup) (does_same g setup recipes techs setup.activity k)
    ∙ ap (λ (r : Result (Unit {0}) SetupFault). does g setup setup.activity ▸ λ _. r) (rest_same g setup recipes techs) ∙ were.1)

activity_kept : (g : Game) (setup : Setup) (recipes : List Recipe) (techs : List Tech) (activity : Activity) → Keeps g setup recipes techs → IsSoundActivity g activity → IsSoundActivity (changed_game g recipes techs) activity
activity_kept g setup recipes techs (Craft recipe) k h = subst (λ (n : ℕ). recipe.0 < n) (sym k.as_many) h
activity_kept g setup recipes techs (Research tech) k h = subst (λ (n : ℕ). tech.0 < n) (sym k.as_many_techs) h
activity_kept g setup recipes techs (Mine source) k h = h
activity_kept g setup recipes techs (Pump good) k h = h
activity_kept g setup recipes techs Generate k h = h
activity_kept g setup recipes techs (Boil good) k h = h

setup_kept : (g : Game) (setup : Setup) (recipes : List Recipe) (techs : List Tech) → Keeps g setup recipes techs → IsSoundSetup g setup → IsSoundSetup (changed_game g recipes techs) setup
setup_kept g setup recipes techs k h = record {
  activity = activity_kept g setup recipes techs setup.activity k h.activity;
  machine = h.machine;
  fuel = h.fuel;
  modules = h.modules;
  beacons = All-weaker (IsSoundGroup g) (IsSoundGroup (changed_game g recipes techs)) (λ group s. record { beacon = s.beacon; modules = s.modules }) setup.beacons h.beacons;
  at = h.at;
}

pub fitting_kept : (g : Game) (setup : Setup) (recipes : List Recipe) (techs : List Tech) → Keeps g setup recipes techs → IsFitting g setup → IsFitting (changed_game g recipes techs) setup
fitting_kept g setup recipes techs k h = (setup_kept g setup recipes techs k h.0, checked_kept g setup recipes techs k h.1)
