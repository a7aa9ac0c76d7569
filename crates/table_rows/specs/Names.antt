-- What the words of tables name: goods, and the set-up of a row. They are looked up in the order in which they stand in the
-- line, and the first that names nothing, or nothing of the needed kind, is told.
use Rattle.std.specs.Prelude.{ℕ, ◌+◌, ◌==◌, Bool, true, false, List, [], ◌∷◌, ◌++◌, length, Option, Some, None, is_some, Result, Ok, Err, if◌then◌else◌}
use Rattle.plan_base.specs.declared.ids.EntityId.{EntityId}
use Rattle.plan_base.specs.declared.ids.GoodId.{GoodId}
use Rattle.plan_base.specs.declared.shape.Kind.{Kind}
use Rattle.plan_base.specs.declared.shape.Kind.TheVariants.{Special, Item, Fluid, Recipe, Source, Machine, Tech}
use Rattle.name_table.specs.Names.{place_of}
use Rattle.game_types.specs.declared.games.Game.{Game}
use Rattle.game_types.specs.declared.machinery.MachineKind.{MachineKind}
use Rattle.game_types.specs.declared.machinery.MachineKind.TheVariants.{Boiler, Beacon}
use Rattle.game_types.specs.declared.setups.Activity.{Activity}
use Rattle.game_types.specs.declared.setups.Activity.TheVariants as activity
use Rattle.game_types.specs.declared.setups.BeaconGroup.{BeaconGroup}
use Rattle.game_types.specs.declared.setups.Setup.{Setup}
use Rattle.game_types.specs.Goods.{electricity, units_good}
use Rattle.game_types.specs.Lookups.{item_at, machine_at}
use Rattle.game_types.specs.Nodes.{names_of}
use Rattle.game_types.specs.Steps.{◌▸◌}
use Rattle.plan_lines.specs.declared.change.Object.{Object}
use Rattle.plan_lines.specs.declared.change.RowPart.{RowPart}
use Rattle.plan_lines.specs.declared.change.RowPart.TheVariants as part
use Rattle.table_rows.specs.declared.refusals.TableRefusal.{TableRefusal}
use Rattle.table_rows.specs.declared.refusals.TableRefusal.TheVariants.{Unknown}

-- ---- one word
-- what a word names, or that it names nothing
abbrev pub known : {A : Type 0} → Object → Option A → Result A TableRefusal
known object None = Err (Unknown object)
known object (Some thing) = Ok thing

-- what a word names passes a test, or is not of the needed kind
abbrev pub such : {A : Type 0} → Object → Bool → A → Result A TableRefusal
such object passes thing = if passes then Ok thing else Err (Unknown object)

-- the place of a word's name among the names of a kind
unfoldable pub place_named : Game → Kind → Object → Result ℕ TableRefusal
place_named g kind object = known object (place_of (names_of g kind) object.name)

unfoldable pub item_named : Game → Object → Result GoodId TableRefusal
item_named g object = place_named g Item object ▸ λ place. Ok (record { 0 = place })

-- fluids come behind the items
unfoldable pub fluid_named : Game → Object → Result GoodId TableRefusal
fluid_named g object = place_named g Fluid object ▸ λ place. Ok (record { 0 = length g.items + place })

unfoldable pub machine_named : Game → Object → Result EntityId TableRefusal
machine_named g object = place_named g Machine object ▸ λ place. Ok (record { 0 = place })

-- a module is an item with a module
unfoldable pub module_named : Game → Object → Result GoodId TableRefusal
module_named g object = item_named g object ▸ λ good. such object (is_some (item_at g good).«module») good

abbrev pub is_beacon : MachineKind → Bool
is_beacon (Beacon effectivity) = true
is_beacon kind = false

-- a beacon is a machine of that kind
unfoldable pub beacon_named : Game → Object → Result EntityId TableRefusal
beacon_named g object = machine_named g object ▸ λ machine. such object (is_beacon (machine_at g machine).kind) machine

-- ---- goods of tables: items, fluids, technologies, of which one unit is a good, and electricity, which is the special thing
-- at place 1
abbrev pub good_at : Game → Kind → ℕ → Option GoodId
good_at g Item place = Some (record { 0 = place })
good_at g Fluid place = Some (record { 0 = length g.items + place })
good_at g Tech place = Some (units_good g (record { 0 = place }))
good_at g Special place = if place == 1 then Some (electricity g) else None
good_at g Recipe place = None
good_at g Source place = None
good_at g Machine place = None

unfoldable pub good_named : Game → Object → Result GoodId TableRefusal
good_named g object = place_named g object.kind object ▸ λ place. known object (good_at g object.kind place)

-- ---- what a row does
-- A recipe is crafted, a source mined, a technology researched; electricity is made. A fluid is heated where the machine is a
-- boiler, and pumped elsewhere. Items and machines are nothing to do.
abbrev pub is_boiler : MachineKind → Bool
is_boiler (Boiler input output temperature) = true
is_boiler kind = false

abbrev pub fluid_activity : Bool → GoodId → Activity
fluid_activity boils good = if boils then activity.Boil good else activity.Pump good

abbrev pub activity_at : Game → Bool → Kind → ℕ → Activity
activity_at g boils Recipe place = activity.Craft (record { 0 = place })
activity_at g boils Source place = activity.Mine (record { 0 = place })
activity_at g boils Fluid place = fluid_activity boils (record { 0 = length g.items + place })
activity_at g boils Tech place = activity.Research (record { 0 = place })
activity_at g boils kind place = activity.Generate

abbrev pub is_activity : Kind → ℕ → Bool
is_activity Recipe place = true
is_activity Source place = true
is_activity Fluid place = true
is_activity Tech place = true
is_activity Special place = place == 1
is_activity Item place = false
is_activity Machine place = false

-- the place of what a row does among the things of its kind
unfoldable pub activity_named : Game → Object → Result ℕ TableRefusal
activity_named g object = place_named g object.kind object ▸ λ place. such object (is_activity object.kind place) place

-- ---- the parts of a row
-- one module more in the last beacons; with none, which no line says, nothing
abbrev pub in_last : GoodId × ℕ → List BeaconGroup → List BeaconGroup
in_last added [] = []
in_last added (group ∷ []) = record group { modules = group.modules ++ added ∷ [] } ∷ []
in_last added (group ∷ next ∷ groups) = group ∷ in_last added (next ∷ groups)

abbrev pub group_of : EntityId → ℕ → ℕ → BeaconGroup
group_of beacon count share = record { beacon = beacon; count = count; share = share; modules = [] }

-- a set-up with one part more
unfoldable pub with_part : Game → RowPart → Setup → Result Setup TableRefusal
with_part g (part.Fuel object) setup = item_named g object ▸ λ good. Ok (record setup { fuel = Some good })
with_part g (part.Module object count) setup = module_named g object ▸ λ good. Ok (record setup { modules = setup.modules ++ (good, count) ∷ [] })
with_part g (part.Beacon object count share) setup = beacon_named g object ▸ λ beacon. Ok (record setup { beacons = setup.beacons ++ group_of beacon count share ∷ [] })
with_part g (part.In object count) setup = module_named g object ▸ λ good. Ok (record setup { beacons = in_last (good, count) setup.beacons })
with_part g (part.At object) setup = fluid_named g object ▸ λ good. Ok (record setup { at = setup.at ++ good ∷ [] })

-- one part after another
unfoldable pub with_parts : Game → List RowPart → Setup → Result Setup TableRefusal
with_parts g [] setup = Ok setup
with_parts g (part ∷ parts) setup = with_part g part setup ▸ λ next. with_parts g parts next

-- ---- the set-up of a row: what it does, its machine, and then its parts
abbrev pub bare_setup : Game → Kind → ℕ → EntityId → Setup
bare_setup g kind place machine = record {
  activity = activity_at g (is_boiler (machine_at g machine).kind) kind place;
  machine = machine;
  fuel = None;
  modules = [];
  beacons = [];
  at = [];
}

unfoldable pub setup_named : Game → Object → Object → List RowPart → Result Setup TableRefusal
setup_named g does machine parts =
    activity_named g does ▸ λ place.
    machine_named g machine ▸ λ entity.
    with_parts g parts (bare_setup g does.kind place entity)
