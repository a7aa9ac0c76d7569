-- The set-up of a row as texts.
use Rattle.std.specs.Prelude.{ℕ, ◌==◌, List, [], ◌∷◌, ◌++◌, Option, None, Some, codes, decimal, fold, if◌then◌else◌, length}
use Rattle.plan_base.specs.declared.ids.EntityId.{EntityId}
use Rattle.plan_base.specs.declared.ids.GoodId.{GoodId}
use Rattle.plan_base.specs.declared.shape.Kind.{Kind}
use Rattle.plan_base.specs.declared.shape.Kind.TheVariants.{Machine, Recipe, Source, Special, Tech}
use Rattle.script_reader.specs.Fields.{kind_word}
use Rattle.game_types.specs.declared.games.Game.{Game}
use Rattle.game_types.specs.declared.setups.Activity.{Activity}
use Rattle.game_types.specs.declared.setups.Activity.TheVariants.{Craft, Mine, Pump, Generate, Boil, Research}
use Rattle.game_types.specs.declared.setups.BeaconGroup.{BeaconGroup}
use Rattle.game_types.specs.declared.setups.Setup.{Setup}
use Rattle.plan_report.specs.Nodes.{name_at}
use Rattle.plan_records.specs.Fields.{Fields, with_blank, with_field}
use Rattle.report_json.specs.Values.{good_id}

-- the thing of a kind at a place, by its name
unfoldable pub thing_id : Game → Kind → ℕ → List ℕ
thing_id g kind place = kind_word kind ++ 58 ∷ name_at g kind place

-- what a row does: a recipe, a source, a fluid, electric power or a technology
abbrev pub activity_id : Game → Activity → List ℕ
activity_id g (Craft recipe) = thing_id g Recipe recipe.0
activity_id g (Mine source) = thing_id g Source source.0
activity_id g (Pump good) = good_id g good
activity_id g Generate = thing_id g Special 1
activity_id g (Boil good) = good_id g good
activity_id g (Research tech) = thing_id g Tech tech.0

abbrev pub fuel_text : Game → Option GoodId → List ℕ
fuel_text g None = []
fuel_text g (Some fuel) = good_id g fuel

-- a piece behind others, with a plus between
unfoldable pub joined : List ℕ → List ℕ → List ℕ
joined text piece = if length text == 0 then piece else text ++ (codes " + " ++ piece)

-- so many of an item: `2 item:speed-module`
abbrev pub module_text : Game → GoodId × ℕ → List ℕ
module_text g pair = decimal pair.1 ++ 32 ∷ good_id g pair.0

unfoldable pub modules_text : Game → List (GoodId × ℕ) → List ℕ
modules_text g modules = fold (λ text pair. joined text (module_text g pair)) [] modules

-- so many beacons, by how many machines each is shared, and the modules of each: `8 machine:beacon shared by 2 with 2 item:speed-module`
abbrev pub group_text : Game → BeaconGroup → List ℕ
group_text g group =
    decimal group.count ++ 32 ∷ (thing_id g Machine group.beacon.0 ++ (codes " shared by " ++ (decimal group.share ++ (codes " with " ++ modules_text g group.modules))))

unfoldable pub beacons_text : Game → List BeaconGroup → List ℕ
beacons_text g groups = fold (λ text group. joined text (group_text g group)) [] groups

-- the set-up of a row
unfoldable pub with_setup : Game → Setup → Fields → Fields
with_setup g setup fs =
    with_field (beacons_text g setup.beacons)
    (with_field (modules_text g setup.modules)
    (with_field (fuel_text g setup.fuel)
    (with_field (thing_id g Machine setup.machine.0)
    (with_field (activity_id g setup.activity) fs))))

unfoldable pub with_no_setup : Fields → Fields
with_no_setup fs = with_blank (with_blank (with_blank (with_blank (with_blank fs))))
