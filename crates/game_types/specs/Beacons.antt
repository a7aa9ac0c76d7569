-- The beacons round a machine: whether their modules fit, what they add to the effects on the machine, and what power they
-- take. After the Factorio Wiki on beacons; that the power of a beacon is shared by the machines that it reaches is this
-- project's own.
use Rattle.std.specs.Prelude.{ℕ, ◌==◌, ℤ, pos, List, Option, Some, None, Result, Ok, Err, if◌then◌else◌}
use Rattle.fractions.specs.Fraction.{Fraction, zero_fraction, whole_fraction}
use Rattle.plan_base.specs.declared.ids.GoodId.{GoodId}
use Rattle.game_types.specs.declared.effects.Allowed.{Allowed}
use Rattle.game_types.specs.declared.effects.BeaconSum.{BeaconSum}
use Rattle.game_types.specs.declared.effects.EffectKind.{EffectKind}
use Rattle.game_types.specs.declared.effects.EffectKind.TheVariants.{Speed, Productivity, Consumption, Pollution}
use Rattle.game_types.specs.declared.effects.Wide.{Wide}
use Rattle.game_types.specs.declared.machinery.MachineKind.{MachineKind}
use Rattle.game_types.specs.declared.machinery.MachineKind.TheVariants.{Beacon}
use Rattle.game_types.specs.declared.refusals.ModuleFault.{ModuleFault}
use Rattle.game_types.specs.declared.refusals.ModuleFault.TheVariants.{TooMany, Kind, Limited}
use Rattle.game_types.specs.declared.refusals.BeaconFault.{BeaconFault}
use Rattle.game_types.specs.declared.refusals.BeaconFault.TheVariants.{ShareZero, TooMany as TooManyInBeacon, Kind as KindInBeacon, Limited as LimitedInBeacon, Wide as WideSum}
use Rattle.game_types.specs.declared.setups.Activity.{Activity}
use Rattle.game_types.specs.declared.setups.BeaconGroup.{BeaconGroup}
use Rattle.game_types.specs.declared.setups.Setup.{Setup}
use Rattle.game_types.specs.declared.games.Game.{Game}
use Rattle.game_types.specs.Fitting.{first_refused}
use Rattle.game_types.specs.Lookups.{machine_at, module_at}
use Rattle.game_types.specs.Modules.{hundredths_of, module_fits, slots_hold}
use Rattle.game_types.specs.Steps.{◌▸◌, first_fault, sum_of, multiplied, divided}

-- ---- the refusals
abbrev pub beacon_fault : ModuleFault → BeaconFault
beacon_fault (TooMany good) = TooManyInBeacon good
beacon_fault (Kind good kind) = KindInBeacon good kind
beacon_fault (Limited good) = LimitedInBeacon good

-- the same fault, of a beacon
abbrev pub in_beacon : Result (Unit {0}) ModuleFault → Result (Unit {0}) BeaconFault
in_beacon (Ok fine) = Ok tt
in_beacon (Err fault) = Err (beacon_fault fault)

abbrev pub unless_refused : Option EffectKind → GoodId → Result (Unit {0}) ModuleFault → Result (Unit {0}) ModuleFault
unless_refused (Some kind) good else_ = Err (Kind good kind)
unless_refused None good else_ = else_

-- whether a module fits: the beacon must allow its effects, then the machine, and then it must be one for the recipe
unfoldable pub beacon_module_fits : Game → Allowed → Allowed → Activity → GoodId → Result (Unit {0}) ModuleFault
beacon_module_fits g beacon machine activity good = unless_refused (first_refused (module_at g good).bonus beacon) good (module_fits g machine activity good)

-- the first of some modules that doesn't fit
unfoldable pub beacon_modules_fit : Game → Allowed → Allowed → Activity → List (GoodId × ℕ) → Result (Unit {0}) ModuleFault
beacon_modules_fit g beacon machine activity modules = first_fault (λ m. beacon_module_fits g beacon machine activity m.0) modules

unfoldable pub group_modules_fit : Game → Setup → BeaconGroup → Result (Unit {0}) ModuleFault
group_modules_fit g setup group =
    slots_hold (machine_at g group.beacon).slots group.modules ▸ λ _.
    beacon_modules_fit g (machine_at g group.beacon).allowed (machine_at g setup.machine).allowed setup.activity group.modules

-- first the share, then the slots, then each module in turn
unfoldable pub group_fits : Game → Setup → BeaconGroup → Result (Unit {0}) BeaconFault
group_fits g setup group = if group.share == 0 then Err (ShareZero group.beacon) else in_beacon (group_modules_fit g setup group)

-- group by group
unfoldable pub checked_beacons : Game → Setup → Result (Unit {0}) BeaconFault
checked_beacons g setup = first_fault (group_fits g setup) setup.beacons

-- ---- what beacons add
abbrev pub beacon_effectivity : MachineKind → Fraction
beacon_effectivity (Beacon effectivity) = effectivity
beacon_effectivity kind = zero_fraction

-- step 1: the hundredths of a beacon's modules times the count of beacons, divided by 100, times the effectivity. The
-- hundredths are a whole number below 2 ^ 43, since the beacon's slots hold the modules: to sum them is never too wide
unfoldable pub passed_on : Fraction → ℕ → ℤ → Result Fraction Wide
passed_on effectivity count hundredths =
    multiplied 1 (whole_fraction hundredths) (whole_fraction (pos count)) ▸ λ all.
    divided 1 all (whole_fraction (pos 100)) ▸ λ bonus.
    multiplied 1 bonus effectivity

unfoldable pub group_bonus : Game → EffectKind → BeaconGroup → Result Fraction Wide
group_bonus g kind group = passed_on (beacon_effectivity (machine_at g group.beacon).kind) group.count (hundredths_of g kind group.modules)

-- step 1 of all kinds of effects
unfoldable pub group_bonuses_fit : Game → BeaconGroup → Result (Unit {0}) Wide
group_bonuses_fit g group =
    group_bonus g Speed group ▸ λ _.
    group_bonus g Productivity group ▸ λ _.
    group_bonus g Consumption group ▸ λ _.
    group_bonus g Pollution group ▸ λ _.
    Ok tt

-- step 1 of all groups
unfoldable pub bonuses_fit : Game → List BeaconGroup → Result (Unit {0}) Wide
bonuses_fit g groups = first_fault (group_bonuses_fit g) groups

-- step 2: what the groups add, summed in order from 0
unfoldable pub bonus_sum : Game → EffectKind → List BeaconGroup → Result Fraction Wide
bonus_sum g kind groups = sum_of 2 (group_bonus g kind) zero_fraction groups

unfoldable pub bonus_sums : Game → List BeaconGroup → Result BeaconSum Wide
bonus_sums g groups =
    bonuses_fit g groups ▸ λ _.
    bonus_sum g Speed groups ▸ λ speed.
    bonus_sum g Productivity groups ▸ λ productivity.
    bonus_sum g Consumption groups ▸ λ consumption.
    bonus_sum g Pollution groups ▸ λ pollution.
    Ok (record { speed = speed; productivity = productivity; consumption = consumption; pollution = pollution })

abbrev pub or_wide : {A : Type 0} → Result A Wide → Result A BeaconFault
or_wide (Ok value) = Ok value
or_wide (Err wide) = Err (WideSum wide)

-- the refusals, then step 1 of every group, then step 2
unfoldable pub beacon_sum_of : Game → Setup → Result BeaconSum BeaconFault
beacon_sum_of g setup = checked_beacons g setup ▸ λ _. or_wide (bonus_sums g setup.beacons)

-- ---- what beacons use
-- step 9: of each group, count divided by share times the power of one beacon, in watts
unfoldable pub group_power : Game → BeaconGroup → Result Fraction Wide
group_power g group =
    divided 9 (whole_fraction (pos group.count)) (whole_fraction (pos group.share)) ▸ λ beacons.
    multiplied 9 beacons (machine_at g group.beacon).usage

-- the groups' power, summed in order from 0
unfoldable pub beacon_power_of : Game → Setup → Result Fraction Wide
beacon_power_of g setup = sum_of 9 (group_power g) zero_fraction setup.beacons
