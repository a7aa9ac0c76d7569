-- Why a change of tables, or a question about them, is refused, and what is told of it.
use Rattle.std.specs.Prelude.{ℕ, length, nat_lt, Option, Some, None, if◌then◌else◌}
use Rattle.plan_base.specs.declared.ids.EntityId.{EntityId}
use Rattle.plan_base.specs.declared.ids.GoodId.{GoodId}
use Rattle.plan_base.specs.declared.ids.NodeId.{NodeId}
use Rattle.plan_base.specs.declared.shape.Kind.TheVariants as kind
use Rattle.game_types.specs.declared.games.Game.{Game}
use Rattle.game_types.specs.declared.refusals.BeaconFault.{BeaconFault}
use Rattle.game_types.specs.declared.refusals.BeaconFault.TheVariants as beacon
use Rattle.game_types.specs.declared.refusals.FuelFault.{FuelFault}
use Rattle.game_types.specs.declared.refusals.FuelFault.TheVariants as fuel
use Rattle.game_types.specs.declared.refusals.MachineFault.{MachineFault}
use Rattle.game_types.specs.declared.refusals.MachineFault.TheVariants as machine
use Rattle.game_types.specs.declared.refusals.ModuleFault.{ModuleFault}
use Rattle.game_types.specs.declared.refusals.ModuleFault.TheVariants as modules
use Rattle.game_types.specs.Goods.{good_count, node_of_good}
use Rattle.game_types.specs.Nodes.{node_at}
use Rattle.power_rows.specs.declared.checks.PowerFault.{PowerFault}
use Rattle.power_rows.specs.declared.checks.PowerFault.TheVariants as power
use Rattle.table_rows.specs.declared.faults.SetupFault.{SetupFault}
use Rattle.table_rows.specs.declared.faults.SetupFault.TheVariants as setup
use Rattle.plan_lines.specs.declared.reply.Detail.{Detail}
use Rattle.plan_lines.specs.declared.reply.Detail.TheVariants as detail
use Rattle.plan_lines.specs.declared.reply.RefusalCode.{RefusalCode}
use Rattle.plan_lines.specs.declared.reply.RefusalCode.TheVariants as code
use Rattle.plan_lines.specs.declared.reply.Reply.{Reply}
use Rattle.plan_lines.specs.declared.reply.Reply.TheVariants as reply
use Rattle.table_rows.specs.declared.refusals.TableRefusal.{TableRefusal}
use Rattle.table_rows.specs.declared.refusals.TableRefusal.TheVariants.{Unknown, NoName, NoPrice, Negative, Full, NameUsed, Setup, Wide}

-- ---- codes
abbrev pub machine_code : MachineFault → RefusalCode
machine_code machine.Category = code.K1
machine_code machine.Fixed = code.K2
machine_code (machine.NoBox fluid) = code.K3

abbrev pub power_code : PowerFault → RefusalCode
power_code power.Category = code.K1
power_code power.NoOutput = code.K5

abbrev pub fuel_code : FuelFault → RefusalCode
fuel_code fuel.Needed = code.L1
fuel_code fuel.NotAccepted = code.L2
fuel_code fuel.NotTaken = code.L3
fuel_code fuel.NotPlanned = code.L4

abbrev pub module_code : ModuleFault → RefusalCode
module_code (modules.TooMany good) = code.U1
module_code (modules.Kind good effect) = code.U2
module_code (modules.Limited good) = code.U3

-- to check beacons forms no number, so that none is past the limits of fractions there
abbrev pub beacon_code : BeaconFault → RefusalCode
beacon_code (beacon.ShareZero entity) = code.B1
beacon_code (beacon.TooMany good) = code.U1
beacon_code (beacon.Kind good effect) = code.U2
beacon_code (beacon.Limited good) = code.U3
beacon_code (beacon.Wide wide) = code.K4

abbrev pub setup_code : SetupFault → RefusalCode
setup_code setup.Temperature = code.P4
setup_code (setup.Machine fault) = machine_code fault
setup_code (setup.Power fault) = power_code fault
setup_code (setup.Lab fault) = code.K1
setup_code (setup.Fuel fault) = fuel_code fault
setup_code (setup.Modules fault) = module_code fault
setup_code (setup.Beacons fault) = beacon_code fault

abbrev pub code_of : TableRefusal → RefusalCode
code_of (Unknown object) = code.X1
code_of (NoName name) = code.P1
code_of (NoPrice object) = code.P1
code_of Negative = code.P2
code_of Full = code.P3
code_of NameUsed = code.P5
code_of (Setup fault) = setup_code fault
code_of (Wide label step) = code.K4

-- ---- details
-- The node of a good and that of a machine. What is not there, which no refusal of a sound set-up names, counts as the first
-- node.
abbrev pub good_node : Game → GoodId → NodeId
good_node g good = if nat_lt good.0 (good_count g) then node_of_good g good else record { 0 = 0 }

abbrev pub machine_node : Game → EntityId → NodeId
machine_node g entity = if nat_lt entity.0 (length g.machines) then node_at g kind.Machine entity.0 else record { 0 = 0 }

abbrev pub machine_detail : Game → MachineFault → Detail
machine_detail g (machine.NoBox fluid) = detail.Node (good_node g fluid)
machine_detail g machine.Category = detail.Bare
machine_detail g machine.Fixed = detail.Bare

abbrev pub module_detail : Game → ModuleFault → Detail
module_detail g (modules.TooMany good) = detail.Node (good_node g good)
module_detail g (modules.Kind good effect) = detail.Effect (good_node g good) effect
module_detail g (modules.Limited good) = detail.Node (good_node g good)

abbrev pub beacon_detail : Game → BeaconFault → Detail
beacon_detail g (beacon.ShareZero entity) = detail.Node (machine_node g entity)
beacon_detail g (beacon.TooMany good) = detail.Node (good_node g good)
beacon_detail g (beacon.Kind good effect) = detail.Effect (good_node g good) effect
beacon_detail g (beacon.Limited good) = detail.Node (good_node g good)
beacon_detail g (beacon.Wide wide) = detail.Bare

abbrev pub setup_detail : Game → SetupFault → Detail
setup_detail g setup.Temperature = detail.Bare
setup_detail g (setup.Machine fault) = machine_detail g fault
setup_detail g (setup.Power fault) = detail.Bare
setup_detail g (setup.Lab fault) = detail.Bare
setup_detail g (setup.Fuel fault) = detail.Bare
setup_detail g (setup.Modules fault) = module_detail g fault
setup_detail g (setup.Beacons fault) = beacon_detail g fault

-- the word that names nothing, the module, the beacon or the fluid that doesn't fit, the row that is too wide
abbrev pub detail_of : Game → TableRefusal → Detail
detail_of g (Unknown object) = detail.Word (Some object.kind) object.name
detail_of g (NoName name) = detail.Word None name
detail_of g (NoPrice object) = detail.Word (Some object.kind) object.name
detail_of g Negative = detail.Bare
detail_of g Full = detail.Bare
detail_of g NameUsed = detail.Bare
detail_of g (Setup fault) = setup_detail g fault
detail_of g (Wide label step) = detail.Row label step

-- the reply of a refused line, at a line of its batch where one is named
abbrev pub refused : Game → TableRefusal → Option ℕ → Reply
refused g refusal at = reply.Refused (code_of refusal) (detail_of g refusal) at
