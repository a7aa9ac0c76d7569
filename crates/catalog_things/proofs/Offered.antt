-- A row all of whose parts are offered passes the checks.
use Rattle.std.proofs.Common.{◌≡◌, ◌∙◌, ◌<◌, ◌≤◌, ◌+◌, ◌-◌, ℕ, zero, suc, Bool, true, false, List, [], ◌∷◌, length, refl, sym, ap, arith}
use Rattle.std.specs.Prelude.{All, Option, None, Some, Result, Ok, Err, IfSome, if◌then◌else◌, is_ok, nat_lt, not, ◌==◌}
use Rattle.std.proofs.lemmas.Bool.Decides.{nat_tests}
use Rattle.plan_base.specs.Binds.{◌▸◌}
use Rattle.plan_base.specs.declared.ids.EntityId.{EntityId}
use Rattle.plan_base.specs.declared.ids.GoodId.{GoodId}
use Rattle.game_types.specs.declared.effects.Allowed.{Allowed}
use Rattle.game_types.specs.declared.effects.EffectKind.{EffectKind}
use Rattle.game_types.specs.declared.games.Game.{Game}
use Rattle.game_types.specs.declared.goods.Fuel.{Fuel}
use Rattle.game_types.specs.declared.goods.Module.{Module}
use Rattle.game_types.specs.declared.machinery.Energy.{Energy}
use Rattle.game_types.specs.declared.machinery.Energy.TheVariants.{Electric, Burner, Heat, Fluid as OfFluid, Void}
use Rattle.game_types.specs.declared.refusals.BeaconFault.{BeaconFault}
use Rattle.game_types.specs.declared.refusals.BeaconFault.TheVariants.{ShareZero}
use Rattle.game_types.specs.declared.refusals.FuelFault.{FuelFault}
use Rattle.game_types.specs.declared.refusals.FuelFault.TheVariants.{NotAccepted}
use Rattle.game_types.specs.declared.refusals.MachineFault.{MachineFault}
use Rattle.game_types.specs.declared.refusals.ModuleFault.{ModuleFault}
use Rattle.game_types.specs.declared.refusals.ModuleFault.TheVariants.{TooMany}
use Rattle.game_types.specs.declared.fitting.FitFault.{FitFault}
use Rattle.game_types.specs.declared.fitting.FitFault.TheVariants.{Limited as FitLimited}
use Rattle.game_types.specs.declared.setups.Activity.{Activity}
use Rattle.game_types.specs.declared.setups.Activity.TheVariants.{Craft, Mine, Pump, Generate, Boil, Research}
use Rattle.game_types.specs.declared.setups.BeaconGroup.{BeaconGroup}
use Rattle.game_types.specs.declared.setups.Setup.{Setup}
use Rattle.game_types.specs.Beacons.{beacon_module_fits, beacon_modules_fit, checked_beacons, group_fits, group_modules_fit, in_beacon, unless_refused}
use Rattle.game_types.specs.Fitting.{first_refused, fit_by, fit_of, is_limited, limit_of}
use Rattle.game_types.specs.Fuels.{accepted, burnt_in, fuel_of_good, fuel_use_of, setup_fuel, without_burner}
use Rattle.game_types.specs.Lookups.{item_at, machine_at, module_at}
use Rattle.game_types.specs.Making.{takes_fuel}
use Rattle.game_types.specs.Modules.{checked_modules, module_count, module_fits, modules_fit, named, slots_hold}
use Rattle.game_types.specs.Rates.{checked_machine, does as machine_does}
use Rattle.game_types.specs.Steps.{first_fault}
use Rattle.power_rows.specs.declared.checks.PowerFault.{PowerFault}
use Rattle.power_rows.specs.Power.{checked_power, gives_nothing, makes, power_fits}
use Rattle.power_rows.specs.Inputs.{fluid_in}
use Rattle.research_rows.specs.declared.labs.LabFault.{LabFault}
use Rattle.research_rows.specs.declared.labs.LabFault.TheVariants.{Category as WrongLab}
use Rattle.research_rows.specs.Research.{checked_lab, lab_fits}
use Rattle.table_rows.specs.declared.faults.SetupFault.TheVariants.{Machine as MachineRefused, Power as PowerRefused, Lab as LabRefused, Fuel as FuelRefused, Modules as ModulesRefused, Beacons as BeaconsRefused}
use Rattle.table_rows.specs.Setups.{checked_rest, does, refused}
use Rattle.catalog_things.specs.Choices.{bare_row, burns, does_in, does_power, is_free_for, is_no_wrong_machine, passes_machine, IsBeaconOffered, IsFuelOffered, IsModuleOffered, IsOffered}

-- ---- the machine
machine_passes : (r : Result (Unit {0}) MachineFault) → is_ok r ≡ true → is_no_wrong_machine (refused MachineRefused r) ≡ true
machine_passes (Ok fine) h = refl
machine_passes (Err fault) h = absurd (let e : false ≡ true = h in cc)

lab_passes : (r : Result (Unit {0}) LabFault) → is_ok r ≡ true → is_no_wrong_machine (refused LabRefused r) ≡ true
lab_passes (Ok fine) h = refl
lab_passes (Err fault) h = absurd (let e : false ≡ true = h in cc)

power_passes : (makes_it nothing other : Bool) → does_power (power_fits makes_it nothing) ≡ true → is_no_wrong_machine (refused PowerRefused (power_fits makes_it other)) ≡ true
power_passes true nothing false h = refl
power_passes true nothing true h = refl
power_passes false nothing other h = absurd (let e : false ≡ true = h in cc)

machine_same : (g : Game) (setup : Setup) (activity : Activity) → setup.activity ≡ activity → checked_machine g setup ≡ checked_machine g (bare_row setup.machine activity)
unfolding checked_machine
machine_same g setup activity e = ap (machine_does g setup.machine (machine_at g setup.machine).kind) e

lab_same : (g : Game) (setup : Setup) (activity : Activity) → setup.activity ≡ activity → checked_lab g setup ≡ checked_lab g (bare_row setup.machine activity)
unfolding checked_lab
lab_same g setup activity e = ap (λ a. if lab_fits g (machine_at g setup.machine).kind a then Ok tt else Err WrongLab) e

power_same : (g : Game) (setup : Setup) (activity : Activity) → setup.activity ≡ activity → does_power (checked_power g (bare_row setup.machine activity)) ≡ true → is_no_wrong_machine (refused PowerRefused (checked_power g setup)) ≡ true
unfolding checked_power
power_same g setup activity e h =
    ap (λ a. is_no_wrong_machine (refused PowerRefused (power_fits (makes (machine_at g setup.machine).kind a) (gives_nothing (fluid_in g setup) (machine_at g setup.machine).usage (machine_at g setup.machine).kind)))) e
    ∙ power_passes (makes (machine_at g setup.machine).kind activity) _ (gives_nothing (fluid_in g setup) (machine_at g setup.machine).usage (machine_at g setup.machine).kind) h

machine_by : (g : Game) (setup : Setup) (activity : Activity) → setup.activity ≡ activity → passes_machine g activity (bare_row setup.machine activity) ≡ true → is_no_wrong_machine (does g setup activity) ≡ true
machine_by g setup (Craft recipe) e h = machine_passes (checked_machine g setup) (ap is_ok (machine_same g setup (Craft recipe) e) ∙ h)
machine_by g setup (Mine source) e h = machine_passes (checked_machine g setup) (ap is_ok (machine_same g setup (Mine source) e) ∙ h)
machine_by g setup (Pump good) e h = machine_passes (checked_machine g setup) (ap is_ok (machine_same g setup (Pump good) e) ∙ h)
machine_by g setup Generate e h = power_same g setup Generate e h
machine_by g setup (Boil good) e h = power_same g setup (Boil good) e h
machine_by g setup (Research tech) e h = lab_passes (checked_lab g setup) (ap is_ok (lab_same g setup (Research tech) e) ∙ h)

pub right_machine : (g : Game) (setup : Setup) → IsOffered g setup → is_no_wrong_machine (does g setup setup.activity) ≡ true
unfolding does_in
right_machine g setup o = machine_by g setup setup.activity refl o.machine_

-- ---- its fuel
fuel_accepted : (energy : Energy) (fuel : Option Fuel) → burns energy fuel ≡ true → (taken : Option Fuel) × (accepted energy fuel ≡ Ok taken)
fuel_accepted energy None h = absurd (let e : false ≡ true = h in cc)
fuel_accepted energy (Some fuel) h = (Some fuel, ap (λ b. if b then Ok (Some fuel) else Err NotAccepted) h)

without : (fuel : Option GoodId) → fuel ≡ None → (taken : Option Fuel) × (without_burner fuel ≡ Ok taken)
without None e = (None, refl)
without (Some good) e = absurd (let no : Some good ≡ None = e in cc)

fuel_fits : (g : Game) (energy : Energy) (fuel : Option GoodId) → IsFuelOffered g energy fuel → (taken : Option Fuel) × (burnt_in energy fuel (fuel_of_good g fuel) ≡ Ok taken)
fuel_fits g Electric fuel o = without fuel o
fuel_fits g Void fuel o = without fuel o
fuel_fits g Heat fuel o = absurd o
fuel_fits g (OfFluid filter effectivity) fuel o = absurd o
fuel_fits g (Burner categories effectivity) None o = absurd o
fuel_fits g (Burner categories effectivity) (Some good) o = fuel_accepted (Burner categories effectivity) (item_at g good).fuel o

fuel_used : (g : Game) (setup : Setup) → IsOffered g setup → (taken : Option Fuel) × (fuel_use_of g setup ≡ Ok taken)
unfolding fuel_use_of setup_fuel
fuel_used g setup o = fuel_fits g (machine_at g setup.machine).energy setup.fuel o.fuel

-- ---- modules
head_of : {A : Type 0} (P : A → Type 0) (x : A) (xs : List A) → All P (x ∷ xs) → P x
head_of P x xs all = all 0 x (omega arith)

tail_of : {A : Type 0} (P : A → Type 0) (x : A) (xs : List A) → All P (x ∷ xs) → All P xs
tail_of P x xs all k d within = all (suc k) d (omega (arith, within))

all_pass : {A E : Type 0} (test : A → Result (Unit {0}) E) (xs : List A) → All (λ x. test x ≡ Ok tt) xs → first_fault test xs ≡ Ok tt
unfolding first_fault
all_pass test [] all = refl
all_pass test (x ∷ xs) all = ap (λ r. r ▸ λ _. first_fault test xs) (head_of (λ y. test y ≡ Ok tt) x xs all) ∙ all_pass test xs (tail_of (λ y. test y ≡ Ok tt) x xs all)

not_less : (slots count rest : ℕ) → count + rest ≤ slots → nat_lt slots count ≡ false
not_less slots count rest few = grind (arith, nat_tests)

slots_enough : (slots : ℕ) (modules : List (GoodId × ℕ)) → module_count modules ≤ slots → slots_hold slots modules ≡ Ok tt
unfolding slots_hold module_count
slots_enough slots [] few = refl
slots_enough slots (m ∷ ms) few =
    ap (λ b. if b then Err (TooMany m.0) else slots_hold (slots - m.1) ms) (not_less slots m.1 (module_count ms) few)
    ∙ slots_enough (slots - m.1) ms (omega (arith, few))

limit_passes : (module_ : Module) (activity : Activity) → is_free_for module_ activity ≡ true → limit_of module_ activity ≡ Ok tt
limit_passes module_ (Craft recipe) free = not_limited (is_limited module_ recipe) free
  where
    not_limited : (limited : Bool) → not limited ≡ true → ◌≡◌ {A = Result (Unit {0}) FitFault} (if limited then Err FitLimited else Ok tt) (Ok tt)
    not_limited false e = refl
    not_limited true e = absurd (let h : false ≡ true = e in cc)
limit_passes module_ (Mine source) free = refl
limit_passes module_ (Pump good) free = refl
limit_passes module_ Generate free = refl
limit_passes module_ (Boil good) free = refl
limit_passes module_ (Research tech) free = refl

module_passes : (g : Game) (allowed : Allowed) (activity : Activity) (good : GoodId) → IsModuleOffered g allowed activity good → module_fits g allowed activity good ≡ Ok tt
unfolding module_fits
module_passes g allowed activity good o =
    ap (λ kind. named good (fit_by kind (module_at g good) activity)) o.allowed_
    ∙ ap (named good) (limit_passes (module_at g good) activity o.free)

modules_pass : (g : Game) (setup : Setup) → IsOffered g setup → checked_modules g setup ≡ Ok tt
unfolding checked_modules modules_fit
modules_pass g setup o =
    ap (λ r. r ▸ λ _. first_fault (λ m. module_fits g (machine_at g setup.machine).allowed setup.activity m.0) setup.modules) (slots_enough (machine_at g setup.machine).slots setup.modules o.few)
    ∙ all_pass (λ m. module_fits g (machine_at g setup.machine).allowed setup.activity m.0) setup.modules
    (λ k d within. module_passes g (machine_at g setup.machine).allowed setup.activity _ (o.modules k d within))

-- ---- beacons
beacon_module_passes : (g : Game) (beacon machine : Allowed) (activity : Activity) (good : GoodId) → first_refused (module_at g good).bonus beacon ≡ None → IsModuleOffered g machine activity good
    → beacon_module_fits g beacon machine activity good ≡ Ok tt
unfolding beacon_module_fits
beacon_module_passes g beacon machine activity good free o =
    ap (λ kind. unless_refused kind good (module_fits g machine activity good)) free ∙ module_passes g machine activity good o

group_modules_pass : (g : Game) (setup : Setup) (group : BeaconGroup) → IsBeaconOffered g setup group → group_modules_fit g setup group ≡ Ok tt
unfolding group_modules_fit beacon_modules_fit
group_modules_pass g setup group o =
    ap (λ r. r ▸ λ _. first_fault (λ m. beacon_module_fits g (machine_at g group.beacon).allowed (machine_at g setup.machine).allowed setup.activity m.0) group.modules)
    (slots_enough (machine_at g group.beacon).slots group.modules o.few)
    ∙ all_pass (λ m. beacon_module_fits g (machine_at g group.beacon).allowed (machine_at g setup.machine).allowed setup.activity m.0) group.modules
    (λ k d within. beacon_module_passes g (machine_at g group.beacon).allowed (machine_at g setup.machine).allowed setup.activity _ (o.in_beacon k d within) (o.in_machine k d within))

group_passes : (g : Game) (setup : Setup) (group : BeaconGroup) → IsBeaconOffered g setup group → group_fits g setup group ≡ Ok tt
unfolding group_fits
group_passes g setup group o =
    ap (λ b. if b then Err (ShareZero group.beacon) else in_beacon (group_modules_fit g setup group)) o.share
    ∙ ap in_beacon (group_modules_pass g setup group o)

beacons_pass : (g : Game) (setup : Setup) → IsOffered g setup → checked_beacons g setup ≡ Ok tt
unfolding checked_beacons
beacons_pass g setup o = all_pass (group_fits g setup) setup.beacons (λ k d within. group_passes g setup _ (o.beacons k d within))

-- ---- all of it
pub passes_rest : (g : Game) (setup : Setup) → IsOffered g setup → checked_rest g setup ≡ Ok tt
unfolding checked_rest
passes_rest g setup o =
    let fuel = fuel_used g setup o in
    ap (λ r. refused FuelRefused r ▸ λ _. refused ModulesRefused (checked_modules g setup) ▸ λ _. refused BeaconsRefused (checked_beacons g setup)) fuel.1
    ∙ ap (λ r. refused ModulesRefused r ▸ λ _. refused BeaconsRefused (checked_beacons g setup)) (modules_pass g setup o)
    ∙ ap (refused BeaconsRefused) (beacons_pass g setup o)
