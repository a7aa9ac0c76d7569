-- The tests tell whether a set-up can stand in a table.
use Rattle.std.proofs.Common.{◌≡◌, ℕ, ◌≤◌, ◌<◌, Bool, true, false, List, Option, Some, None, Result, Ok, Err, All, IfSome, refl, sym, ◌∙◌, length}
use Rattle.std.specs.Prelude.{◌&&◌, nat_le}
use Rattle.std.specs.Bool.{Decides, OnTrue}
use Rattle.std.specs.List.{list_all}
use Rattle.std.specs.Option.{IsSome, IsSomeAnd, is_some}
use Rattle.std.proofs.lemmas.Bool.{OnTrue_from, and_from, false≢true, leb-true, le-leb}
use Rattle.std.proofs.lemmas.Bool.Decides.{Decides-and, Decides-by_and, Decides-like, Decides-ltb}
use Rattle.plan_base.specs.declared.ids.EntityId.{EntityId}
use Rattle.plan_base.specs.declared.ids.GoodId.{GoodId}
use Rattle.game_types.specs.declared.games.Game.{Game}
use Rattle.game_types.specs.declared.goods.Item.{Item}
use Rattle.game_types.specs.declared.goods.Module.{Module}
use Rattle.game_types.specs.declared.machinery.Machine.{Machine}
use Rattle.game_types.specs.declared.machinery.MachineKind.{MachineKind}
use Rattle.game_types.specs.declared.machinery.MachineKind.TheVariants.{Crafter, Drill, Pump as PumpKind, Boiler, Generator, BurnerGenerator, Solar, Reactor, Lab, Beacon}
use Rattle.game_types.specs.declared.setups.Activity.{Activity}
use Rattle.game_types.specs.declared.setups.Activity.TheVariants.{Craft, Mine, Pump, Generate, Boil, Research}
use Rattle.game_types.specs.declared.setups.BeaconGroup.{BeaconGroup}
use Rattle.game_types.specs.declared.setups.Setup.{Setup}
use Rattle.game_types.specs.Sound.{IsBeacon, IsBeaconKind, IsFluid, IsGood, IsItem, IsModule, IsSoundActivity, IsSoundGroup, IsSoundSetup}
use Rattle.table_rows.specs.declared.faults.SetupFault.{SetupFault}
use Rattle.table_rows.specs.Setups.{IsFitting, checked_setup}
use Rattle.wish_setups.specs.Fitting.{are_modules, are_there, fits, has_module, is_activity, is_beacon, is_beacon_kind, is_fine, is_fluid, is_fuel, is_good, is_group, is_item, is_machine_there, are_parts_there, is_module, is_some_beacon}

-- ---- tests that always pass or never do
always : {P : Type 0} → P → Decides true P
always p = (λ e. p, λ p. refl)

never : {P : Type 0} → ¬ P → Decides false P
never n = (λ e. absurd (false≢true e), λ p. absurd (n p))

decides_le : (a b : ℕ) → Decides (nat_le a b) (a ≤ b)
decides_le a b = (leb-true a b, le-leb a b)

-- ---- the parts of a set-up
decides_good : (g : Game) (good : GoodId) → Decides (is_good g good) (IsGood g good.0)
decides_good g good = Decides-ltb good.0 _

decides_fluid : (g : Game) (good : GoodId) → Decides (is_fluid g good) (IsFluid g good.0)
decides_fluid g good = Decides-and _ _ (decides_le (length g.items) good.0) (decides_good g good)

decides_some : (found : Option Module) → Decides (is_some found) (IsSome found)
decides_some found = (λ e. e, λ e. e)

decides_has : (found : Option Item) → Decides (has_module found) (IsSomeAnd found (λ item. IsSome item.«module»))
decides_has None = never (λ h. h)
decides_has (Some item) = decides_some item.«module»

decides_module : (g : Game) (good : GoodId) → Decides (is_module g good) (IsModule g good)
decides_module g good = decides_has _

decides_modules : (g : Game) (modules : List (GoodId × ℕ)) → Decides (are_modules g modules) (All (λ m. IsModule g m.0) modules)
decides_modules g = Decides-by_and (λ m. is_module g m.0) (λ m. IsModule g m.0) (are_modules g) (λ m. decides_module g m.0) refl (λ _ _. refl)

decides_kind : (kind : MachineKind) → Decides (is_beacon_kind kind) (IsBeaconKind kind)
decides_kind (Beacon effectivity) = always tt
decides_kind (Crafter speed categories fixed) = never (λ h. h)
decides_kind (Drill speed categories fluid_box) = never (λ h. h)
decides_kind (PumpKind fluid speed) = never (λ h. h)
decides_kind (Boiler input output temperature) = never (λ h. h)
decides_kind (Generator input effectivity per_tick max_temperature burns output) = never (λ h. h)
decides_kind (BurnerGenerator output) = never (λ h. h)
decides_kind (Solar production) = never (λ h. h)
decides_kind Reactor = never (λ h. h)
decides_kind (Lab inputs speed) = never (λ h. h)

decides_some_beacon : (found : Option Machine) → Decides (is_some_beacon found) (IsSomeAnd found (λ m. IsBeaconKind m.kind))
decides_some_beacon None = never (λ h. h)
decides_some_beacon (Some machine) = decides_kind machine.kind

decides_beacon : (g : Game) (machine : EntityId) → Decides (is_beacon g machine) (IsBeacon g machine)
decides_beacon g machine = decides_some_beacon _

decides_group : (g : Game) (group : BeaconGroup) → Decides (is_group g group) (IsSoundGroup g group)
decides_group g group =
    Decides-like (is_group g group) (λ p. record { beacon = p.0; modules = p.1 }) (λ h. (h.beacon, h.modules))
    (Decides-and _ _ (decides_beacon g group.beacon) (decides_modules g group.modules))

decides_groups : (g : Game) (groups : List BeaconGroup) → Decides (list_all (is_group g) groups) (All (IsSoundGroup g) groups)
decides_groups g = Decides-by_and (is_group g) (IsSoundGroup g) (list_all (is_group g)) (decides_group g) refl (λ _ _. refl)

decides_fluids : (g : Game) (goods : List GoodId) → Decides (list_all (is_fluid g) goods) (All (λ good. IsFluid g good.0) goods)
decides_fluids g = Decides-by_and (is_fluid g) (λ good. IsFluid g good.0) (list_all (is_fluid g)) (decides_fluid g) refl (λ _ _. refl)

decides_activity : (g : Game) (activity : Activity) → Decides (is_activity g activity) (IsSoundActivity g activity)
decides_activity g (Craft recipe) = Decides-ltb recipe.0 _
decides_activity g (Mine source) = Decides-ltb source.0 _
decides_activity g (Pump good) = decides_good g good
decides_activity g Generate = always tt
decides_activity g (Boil good) = decides_good g good
decides_activity g (Research tech) = Decides-ltb tech.0 _

decides_fuel : (g : Game) (fuel : Option GoodId) → Decides (is_fuel g fuel) (IfSome fuel (λ good. IsItem g good.0))
decides_fuel g None = always tt
decides_fuel g (Some good) = Decides-ltb good.0 _

-- ---- a set-up
decides_machine : (g : Game) (setup : Setup) → Decides (is_machine_there g setup) ((IsSoundActivity g setup.activity × (setup.machine.0 < length g.machines)) × IfSome setup.fuel (λ good. IsItem g good.0))
decides_machine g setup = Decides-and _ _ (Decides-and _ _ (decides_activity g setup.activity) (Decides-ltb setup.machine.0 (length g.machines))) (decides_fuel g setup.fuel)

decides_parts : (g : Game) (setup : Setup) → Decides (are_parts_there g setup) ((All (λ m. IsModule g m.0) setup.modules × All (IsSoundGroup g) setup.beacons) × All (λ good. IsFluid g good.0) setup.at)
decides_parts g setup = Decides-and _ _ (Decides-and _ _ (decides_modules g setup.modules) (decides_groups g setup.beacons)) (decides_fluids g setup.at)

decides_sound : (g : Game) (setup : Setup) → Decides (are_there g setup) (IsSoundSetup g setup)
unfolding are_there
decides_sound g setup =
    Decides-like (is_machine_there g setup && are_parts_there g setup)
    (λ p. record { activity = p.0.0.0; machine = p.0.0.1; fuel = p.0.1; modules = p.1.0.0; beacons = p.1.0.1; at = p.1.1 })
    (λ h. (((h.activity, h.machine), h.fuel), ((h.modules, h.beacons), h.at)))
    (Decides-and _ _ (decides_machine g setup) (decides_parts g setup))

decides_fine : (r : Result (Unit {0}) SetupFault) → Decides (is_fine r) (◌≡◌ {A = Result (Unit {0}) SetupFault} r (Ok tt))
decides_fine (Ok fine) = always refl
decides_fine (Err fault) = never (λ e. cc)

pub decides_fitting : (g : Game) (setup : Setup) → Decides (fits g setup) (IsFitting g setup)
unfolding fits
decides_fitting g setup = Decides-and _ _ (decides_sound g setup) (decides_fine (checked_setup g setup))

pub decides_all_fitting : {X : Type 0} (g : Game) (setup_of : X → Setup) (rows : List X) → Decides (list_all (λ row. fits g (setup_of row)) rows) (All (λ row. IsFitting g (setup_of row)) rows)
decides_all_fitting g setup_of = Decides-by_and (λ row. fits g (setup_of row)) (λ row. IsFitting g (setup_of row)) (list_all (λ row. fits g (setup_of row))) (λ row. decides_fitting g (setup_of row)) refl (λ _ _. refl)

-- ---- for what is proved of the code
on_true : {P : Type 0} (b c : Bool) → b ≡ c → Decides c P → OnTrue b P
on_true b c e d = OnTrue_from b _ (λ t. d.0 (sym e ∙ t))

pub sound_parts : (g : Game) (setup : Setup) (b : Bool) → is_machine_there g setup ≡ true → b ≡ are_parts_there g setup → OnTrue b (IsSoundSetup g setup)
unfolding are_there
sound_parts g setup b e f = OnTrue_from b _ (λ t. (decides_sound g setup).0 (and_from (is_machine_there g setup) (are_parts_there g setup) e (sym f ∙ t)))

pub fitting_where : (g : Game) (setup : Setup) (b : Bool) → b ≡ fits g setup → OnTrue b (IsFitting g setup)
fitting_where g setup b e = on_true b (fits g setup) e (decides_fitting g setup)
