-- What a set-up that can stand in a table passes.
use Rattle.std.specs.Prelude.{◌≡◌, Bool, true, false, Result, Ok, Err, IsOk, if◌then◌else◌}
use Rattle.std.proofs.Common.{refl, sym, subst, ap}
use Rattle.game_types.specs.declared.setups.Activity.{Activity}
use Rattle.game_types.specs.declared.setups.Activity.TheVariants.{Craft, Mine, Pump, Generate, Boil, Research}
use Rattle.game_types.specs.declared.setups.Setup.{Setup}
use Rattle.game_types.specs.declared.games.Game.{Game}
use Rattle.game_types.specs.Beacons.{checked_beacons}
use Rattle.game_types.specs.Fuels.{fuel_use_of}
use Rattle.game_types.specs.Modules.{checked_modules}
use Rattle.game_types.specs.Steps.{◌▸◌}
use Rattle.power_rows.specs.Power.{checked_power}
use Rattle.table_rows.specs.declared.faults.SetupFault.{SetupFault}
use Rattle.table_rows.specs.declared.faults.SetupFault.TheVariants.{Power, Fuel, Modules, Beacons}
use Rattle.table_rows.specs.Setups.{refused, checked_fits, does, checked_rest, checked_setup, IsFitting, IsPower}

five : (r s t u v : Result (Unit {0}) SetupFault) → (r ▸ λ _. s ▸ λ _. t ▸ λ _. u ▸ λ _. v) ≡ Ok tt → (s ≡ Ok tt) × (t ≡ Ok tt) × (u ≡ Ok tt) × (v ≡ Ok tt)
five (Ok r) (Ok s) (Ok t) (Ok u) v h = (refl, refl, refl, h)
five (Err f) s t u v h = absurd (cc)
five (Ok r) (Err f) t u v h = absurd (cc)
five (Ok r) (Ok s) (Err f) u v h = absurd (cc)
five (Ok r) (Ok s) (Ok t) (Err f) v h = absurd (cc)

parts : (g : Game) (setup : Setup) → checked_setup g setup ≡ Ok tt
    → (does g setup setup.activity ≡ Ok tt) × (refused Fuel (fuel_use_of g setup) ≡ Ok tt) × (refused Modules (checked_modules g setup) ≡ Ok tt) × (refused Beacons (checked_beacons g setup) ≡ Ok tt)
unfolding checked_setup checked_rest
parts g setup h = five (checked_fits g setup) (does g setup setup.activity) (refused Fuel (fuel_use_of g setup)) (refused Modules (checked_modules g setup)) (refused Beacons (checked_beacons g setup)) h

fine : {A E : Type 0} (fault : E → SetupFault) (r : Result A E) → refused fault r ≡ Ok tt → IsOk r
fine fault (Ok x) h = refl
fine fault (Err e) h = absurd (cc)

fine_unit : {E : Type 0} (fault : E → SetupFault) (r : Result (Unit {0}) E) → refused fault r ≡ Ok tt → r ≡ Ok tt
fine_unit fault (Ok x) h = refl
fine_unit fault (Err e) h = absurd (cc)

pub fuel_fits : (g : Game) (setup : Setup) → IsFitting g setup → IsOk (fuel_use_of g setup)
fuel_fits g setup h = fine Fuel (fuel_use_of g setup) (parts g setup h.1).1

pub modules_fit : (g : Game) (setup : Setup) → IsFitting g setup → checked_modules g setup ≡ Ok tt
modules_fit g setup h = fine_unit Modules (checked_modules g setup) (parts g setup h.1).2

pub beacons_fit : (g : Game) (setup : Setup) → IsFitting g setup → checked_beacons g setup ≡ Ok tt
beacons_fit g setup h = fine_unit Beacons (checked_beacons g setup) (parts g setup h.1).3

makes : (g : Game) (setup : Setup) (activity : Activity) → IsPower activity → does g setup activity ≡ Ok tt → checked_power g setup ≡ Ok tt
makes g setup Generate h k = fine_unit Power (checked_power g setup) k
makes g setup (Boil good) h k = fine_unit Power (checked_power g setup) k
makes g setup (Craft r) h k = absurd h
makes g setup (Mine r) h k = absurd h
makes g setup (Pump r) h k = absurd h
makes g setup (Research r) h k = absurd h

pub power_fits : (g : Game) (setup : Setup) → IsFitting g setup → IsPower setup.activity → checked_power g setup ≡ Ok tt
power_fits g setup h k = makes g setup setup.activity k (parts g setup h.1).0
