-- What a row is set to do: its machine with modules, beacons and fuel.
use Rattle.std.specs.Prelude.{ℕ, List, [], ◌++◌, Option, Some, None, codes, decimal, map}
use Rattle.std.specs.List.{flat_map}
use Rattle.plan_base.specs.declared.ids.EntityId.{EntityId}
use Rattle.plan_base.specs.declared.ids.GoodId.{GoodId}
use Rattle.plan_base.specs.declared.shape.Kind.TheVariants.{Machine}
use Rattle.game_types.specs.declared.games.Game.{Game}
use Rattle.game_types.specs.declared.setups.BeaconGroup.{BeaconGroup}
use Rattle.game_types.specs.declared.setups.Setup.{Setup}
use Rattle.page_rows.specs.Things.{good_thing, thing_text}

-- texts behind one another
abbrev pub joined : List (List ℕ) → List ℕ
joined texts = flat_map (λ text. text) texts

abbrev pub machine_text : Game → EntityId → List ℕ
machine_text g machine = thing_text g Machine machine.0

abbrev pub good_text : Game → GoodId → List ℕ
good_text g good = thing_text g (good_thing g good).kind (good_thing g good).index

-- so many of a module
abbrev pub module_text : Game → GoodId × ℕ → List ℕ
module_text g counted = codes "<li>" ++ (decimal counted.1 ++ (codes " &times; " ++ (good_text g counted.0 ++ codes "</li>")))

abbrev pub modules_text : Game → List (GoodId × ℕ) → List ℕ
modules_text g modules = joined (map (module_text g) modules)

-- so many beacons that reach the machine, how many machines each is for, and its modules
abbrev pub beacon_item : ℕ → List ℕ → ℕ → List ℕ → List ℕ
beacon_item count beacon share modules =
    codes "<li>" ++ (decimal count ++ (codes " &times; " ++ (beacon ++ (codes " <small>each for " ++ (decimal share
    ++ (codes "</small><ul>" ++ (modules ++ codes "</ul></li>")))))))

unfoldable pub beacon_text : Game → BeaconGroup → List ℕ
beacon_text g group = beacon_item group.count (machine_text g group.beacon) group.share (modules_text g group.modules)

abbrev pub beacons_text : Game → List BeaconGroup → List ℕ
beacons_text g groups = joined (map (beacon_text g) groups)

abbrev pub fuel_text : Game → Option GoodId → List ℕ
fuel_text g None = []
fuel_text g (Some fuel) = codes "<li>burns " ++ (good_text g fuel ++ codes "</li>")

abbrev pub taken_text : Game → GoodId → List ℕ
taken_text g good = codes "<li>takes " ++ (good_text g good ++ codes "</li>")

abbrev pub takings_text : Game → List GoodId → List ℕ
takings_text g goods = joined (map (taken_text g) goods)

unfoldable pub setup_text : Game → Setup → List ℕ
setup_text g setup =
    machine_text g setup.machine ++ (codes "<ul>" ++ (modules_text g setup.modules ++ (beacons_text g setup.beacons ++ (fuel_text g setup.fuel ++ (takings_text g setup.at ++ codes "</ul>")))))
