-- What a row of a table may be made of: which machines do an activity, which items are fuels and modules of a machine, and which goods
-- stand for an ingredient. Each is told by the very checks that refuse rows.
use Rattle.std.specs.Prelude.{◌≡◌, ◌≤◌, ℕ, ◌+◌, ◌-◌, ◌==◌, ◌&&◌, Bool, true, false, not, List, [], ◌∷◌, All, IfSome, Option, Some, None, Result, Ok, Err, filter, is_none, is_ok, length, map, if◌then◌else◌, ⊤}
use Rattle.std.specs.List.{range_with_len}
use Rattle.fractions.specs.Fraction.{Fraction}
use Rattle.plan_base.specs.declared.ids.EntityId.{EntityId}
use Rattle.plan_base.specs.declared.ids.GoodId.{GoodId}
use Rattle.plan_base.specs.declared.ids.NodeId.{NodeId}
use Rattle.game_types.specs.declared.effects.Allowed.{Allowed}
use Rattle.game_types.specs.declared.games.Game.{Game}
use Rattle.game_types.specs.declared.goods.Fluid.{Fluid}
use Rattle.game_types.specs.declared.goods.Fuel.{Fuel}
use Rattle.game_types.specs.declared.goods.Item.{Item}
use Rattle.game_types.specs.declared.goods.Module.{Module}
use Rattle.game_types.specs.declared.machinery.Energy.{Energy}
use Rattle.game_types.specs.declared.recipes.Part.{Part}
use Rattle.game_types.specs.declared.machinery.Energy.TheVariants.{Electric, Burner, Heat, Fluid as OfFluid, Void}
use Rattle.game_types.specs.declared.setups.Activity.{Activity}
use Rattle.game_types.specs.declared.setups.Activity.TheVariants.{Craft, Mine, Pump, Generate, Boil, Research}
use Rattle.game_types.specs.declared.setups.BeaconGroup.{BeaconGroup}
use Rattle.game_types.specs.declared.setups.Setup.{Setup}
use Rattle.game_types.specs.Fitting.{first_refused, is_limited}
use Rattle.game_types.specs.Lookups.{item_at, machine_at, module_at}
use Rattle.game_types.specs.Making.{takes_fuel}
use Rattle.game_types.specs.Modules.{module_count}
use Rattle.game_types.specs.Rates.{checked_machine}
use Rattle.game_types.specs.Temperatures.{fits_alone, fluid_at, is_base, is_within}
use Rattle.power_rows.specs.declared.checks.PowerFault.{PowerFault}
use Rattle.power_rows.specs.declared.checks.PowerFault.TheVariants.{Category, NoOutput}
use Rattle.power_rows.specs.Power.{checked_power}
use Rattle.research_rows.specs.Research.{checked_lab}
use Rattle.table_rows.specs.declared.faults.SetupFault.{SetupFault}
use Rattle.table_rows.specs.declared.faults.SetupFault.TheVariants.{Power as PowerRefused}
use Rattle.graph_store.specs.Lists.{list_at}
use Rattle.graph_store.specs.Members.{node, those}
use Rattle.depend_index.specs.declared.index.Index.{Index}
use Rattle.depend_index.specs.Goods.{first_machine}

-- ---- machines
-- a row of a machine and what it does, with nothing else
abbrev pub bare_row : EntityId → Activity → Setup
bare_row machine activity = record { activity = activity; machine = machine; fuel = None; modules = []; beacons = []; at = [] }

-- whether the machine is one for it; that it gives nothing with what comes in is another matter (K5)
abbrev pub does_power : Result (Unit {0}) PowerFault → Bool
does_power (Ok fine) = true
does_power (Err NoOutput) = true
does_power (Err Category) = false

-- whether a row of a machine and an activity passes the check of its machine, K1 to K3
abbrev pub passes_machine : Game → Activity → Setup → Bool
passes_machine g Generate row = does_power (checked_power g row)
passes_machine g (Boil good) row = does_power (checked_power g row)
passes_machine g (Research tech) row = is_ok (checked_lab g row)
passes_machine g (Craft recipe) row = is_ok (checked_machine g row)
passes_machine g (Mine source) row = is_ok (checked_machine g row)
passes_machine g (Pump good) row = is_ok (checked_machine g row)

-- whether the machine with a number does an activity
unfoldable pub does_in : Game → Activity → ℕ → Bool
does_in g activity machine = passes_machine g activity (bare_row (record { 0 = machine }) activity)

-- the nodes, numbered from a first one on, of those of so many numbers that pass a test
abbrev pub passing : (ℕ → Bool) → ℕ → ℕ → ℕ → List NodeId
passing test first from count = map (λ k. node (first + k)) (filter test (range_with_len from count))

-- the machines that do an activity
unfoldable pub machines_for : Game → Activity → List NodeId
machines_for g activity = passing (does_in g activity) (first_machine g) 0 (length g.machines)

-- ---- fuels and modules
-- whether an item is a fuel that a machine burns
abbrev pub burns : Energy → Option Fuel → Bool
burns energy None = false
burns energy (Some fuel) = takes_fuel energy fuel

-- the fuels of a machine
unfoldable pub fuels_of : Game → Energy → List NodeId
fuels_of g energy = those (λ item. burns energy item.fuel) 3 g.items

-- whether an item is a module all of whose effects are allowed
abbrev pub may_hold : Allowed → Option Module → Bool
may_hold allowed None = false
may_hold allowed (Some module_) = is_none (first_refused module_.bonus allowed)

-- the modules whose effects a machine or a beacon allows
unfoldable pub modules_of : Game → Allowed → List NodeId
modules_of g allowed = those (λ item. may_hold allowed item.module) 3 g.items

-- ---- what a row may be made of
-- a burner is offered its fuels, a machine that burns nothing is offered none, and what runs on heat or a fluid isn't planned
abbrev pub IsFuelOffered : Game → Energy → Option GoodId → Type 0
IsFuelOffered g Electric fuel = fuel ≡ None
IsFuelOffered g Void fuel = fuel ≡ None
IsFuelOffered g Heat fuel = ⊥
IsFuelOffered g (OfFluid filter effectivity) fuel = ⊥
IsFuelOffered g (Burner categories effectivity) None = ⊥
IsFuelOffered g (Burner categories effectivity) (Some good) = burns (Burner categories effectivity) (item_at g good).fuel ≡ true

-- the recipe of an activity is one that the module may be used for
abbrev pub is_free_for : Module → Activity → Bool
is_free_for module_ (Craft recipe) = not (is_limited module_ recipe)
is_free_for module_ activity = true

-- a module of a row's machine: its effects are allowed, and the recipe is one of its own
pub record IsModuleOffered (g : Game) (allowed : Allowed) (activity : Activity) (good : GoodId) : Type 0 where
  pub allowed_ : first_refused (module_at g good).bonus allowed ≡ None
  pub free : is_free_for (module_at g good) activity ≡ true

-- beacons of a row: their share isn't 0, their modules are of the beacon and of the machine, and no more than the slots
pub record IsBeaconOffered (g : Game) (setup : Setup) (group : BeaconGroup) : Type 0 where
  pub share : (group.share == 0) ≡ false
  pub few : module_count group.modules ≤ (machine_at g group.beacon).slots
  pub in_beacon : All (λ m. first_refused (module_at g m.0).bonus (machine_at g group.beacon).allowed ≡ None) group.modules
  pub in_machine : All (λ m. IsModuleOffered g (machine_at g setup.machine).allowed setup.activity m.0) group.modules

-- A row all of whose parts are offered: its machine does the activity, its fuel is one of the machine's, its modules and those in its
-- beacons are allowed and have room.
pub record IsOffered (g : Game) (setup : Setup) : Type 0 where
  pub machine_ : does_in g setup.activity setup.machine.0 ≡ true
  pub fuel : IsFuelOffered g (machine_at g setup.machine).energy setup.fuel
  pub few : module_count setup.modules ≤ (machine_at g setup.machine).slots
  pub modules : All (λ m. IsModuleOffered g (machine_at g setup.machine).allowed setup.activity m.0) setup.modules
  pub beacons : All (IsBeaconOffered g setup) setup.beacons

-- not refused for its machine, K1 to K3: all is well, or it gives nothing with what comes in (K5)
abbrev pub is_no_wrong_machine : Result (Unit {0}) SetupFault → Bool
is_no_wrong_machine (Ok fine) = true
is_no_wrong_machine (Err (PowerRefused NoOutput)) = true
is_no_wrong_machine (Err other) = false

-- ---- ingredients
-- whether a good that has no variants stands for its own ingredient
abbrev pub fits_by_itself : Game → Part → Bool
fits_by_itself g part = fits_alone part.low part.high (fluid_at g part.good.0)

-- whether there is a fluid and it is within the bounds of an ingredient
abbrev pub is_fluid_within : Part → Option Fluid → Bool
is_fluid_within part None = false
is_fluid_within part (Some fluid) = is_within part.low part.high fluid.at

-- whether a node is a fluid within the bounds of an ingredient
unfoldable pub is_node_within : Game → Part → NodeId → Bool
is_node_within g part n = is_fluid_within part (fluid_at g (n.0 - 3))

-- the fits among the variants of an ingredient's good; where it has none the good's own node, where it fits
abbrev pub fits_among : Game → Part → NodeId → List NodeId → List NodeId
fits_among g part own [] = if fits_by_itself g part then own ∷ [] else []
fits_among g part own (v ∷ vs) = filter (is_node_within g part) (v ∷ vs)

-- the nodes of the goods that stand for an ingredient whose good has this node; variants the coolest first
unfoldable pub fits_of : Game → Index → Part → NodeId → List NodeId
fits_of g index part own = fits_among g part own (list_at index.coolest_variants.items part.good.0)
