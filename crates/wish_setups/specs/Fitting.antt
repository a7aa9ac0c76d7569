-- Whether a set-up can stand in a table, as a test: all that it names is there, and nothing of it is refused.
use Rattle.std.specs.Prelude.{ℕ, ◌+◌, ◌&&◌, Bool, true, false, nat_lt, nat_le, List, length, Option, Some, None, is_some, Result, Ok, Err, slice_get}
use Rattle.std.specs.List.{list_all}
use Rattle.plan_base.specs.declared.ids.EntityId.{EntityId}
use Rattle.plan_base.specs.declared.ids.GoodId.{GoodId}
use Rattle.game_types.specs.declared.games.Game.{Game}
use Rattle.game_types.specs.declared.goods.Item.{Item}
use Rattle.game_types.specs.declared.machinery.Machine.{Machine}
use Rattle.game_types.specs.declared.machinery.MachineKind.{MachineKind}
use Rattle.game_types.specs.declared.machinery.MachineKind.TheVariants.{Beacon}
use Rattle.game_types.specs.declared.setups.Activity.{Activity}
use Rattle.game_types.specs.declared.setups.Activity.TheVariants.{Craft, Mine, Pump, Generate, Boil, Research}
use Rattle.game_types.specs.declared.setups.BeaconGroup.{BeaconGroup}
use Rattle.game_types.specs.declared.setups.Setup.{Setup}
use Rattle.table_rows.specs.declared.faults.SetupFault.{SetupFault}
use Rattle.table_rows.specs.Setups.{checked_setup}

-- ---- all that a set-up names is there
abbrev pub is_item : Game → GoodId → Bool
is_item g good = nat_lt good.0 (length g.items)

abbrev pub is_good : Game → GoodId → Bool
is_good g good = nat_lt good.0 (length g.items + length g.fluids)

abbrev pub is_fluid : Game → GoodId → Bool
is_fluid g good = nat_le (length g.items) good.0 && is_good g good

-- a good is an item with a module
abbrev pub has_module : Option Item → Bool
has_module None = false
has_module (Some item) = is_some item.«module»

abbrev pub is_module : Game → GoodId → Bool
is_module g good = has_module (slice_get g.items good.0)

abbrev pub are_modules : Game → List (GoodId × ℕ) → Bool
are_modules g modules = list_all (λ m. is_module g m.0) modules

abbrev pub is_beacon_kind : MachineKind → Bool
is_beacon_kind (Beacon effectivity) = true
is_beacon_kind kind = false

abbrev pub is_some_beacon : Option Machine → Bool
is_some_beacon None = false
is_some_beacon (Some machine) = is_beacon_kind machine.kind

abbrev pub is_beacon : Game → EntityId → Bool
is_beacon g machine = is_some_beacon (slice_get g.machines machine.0)

abbrev pub is_group : Game → BeaconGroup → Bool
is_group g group = is_beacon g group.beacon && are_modules g group.modules

-- what is done is there
abbrev pub is_activity : Game → Activity → Bool
is_activity g (Craft recipe) = nat_lt recipe.0 (length g.recipes)
is_activity g (Mine source) = nat_lt source.0 (length g.sources)
is_activity g (Pump good) = is_good g good
is_activity g Generate = true
is_activity g (Boil good) = is_good g good
is_activity g (Research tech) = nat_lt tech.0 (length g.techs)

abbrev pub is_fuel : Game → Option GoodId → Bool
is_fuel g None = true
is_fuel g (Some good) = is_item g good

-- what a set-up does, its machine and its fuel
abbrev pub is_machine_there : Game → Setup → Bool
is_machine_there g setup = is_activity g setup.activity && nat_lt setup.machine.0 (length g.machines) && is_fuel g setup.fuel

-- its modules, its beacons and its fluids
abbrev pub are_parts_there : Game → Setup → Bool
are_parts_there g setup = are_modules g setup.modules && list_all (is_group g) setup.beacons && list_all (is_fluid g) setup.at

unfoldable pub are_there : Game → Setup → Bool
are_there g setup = is_machine_there g setup && are_parts_there g setup

-- ---- nothing of it is refused
abbrev pub is_fine : {A : Type 0} → Result A SetupFault → Bool
is_fine (Ok fine) = true
is_fine (Err fault) = false

unfoldable pub fits : Game → Setup → Bool
fits g setup = are_there g setup && is_fine (checked_setup g setup)
