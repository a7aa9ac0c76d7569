-- Beacons that fit, and sums over groups of beacons.
use Rattle.std.specs.Prelude.{◌≡◌, ℕ, ◌+◌, ◌-◌, ◌<◌, ◌≤◌, Bool, true, false, Option, Some, None, IsSomeAnd, slice_get, List, [], ◌∷◌, length, All, Result, Ok, Err, nat_lt, if◌then◌else◌, ◌==◌}
use Rattle.std.proofs.Common.{refl, arith, get_or}
use Rattle.std.proofs.lemmas.Bool.Decides.{nat_tests}
use Rattle.std.proofs.lemmas.List.Elements.{All-get_or, All-from_get_or}
use Rattle.std.proofs.lemmas.Option.{slice_get_within}
use Rattle.plan_base.specs.declared.ids.EntityId.{EntityId}
use Rattle.plan_base.specs.declared.ids.GoodId.{GoodId}
use Rattle.game_types.specs.declared.machinery.Machine.{Machine}
use Rattle.game_types.specs.declared.refusals.ModuleFault.{ModuleFault}
use Rattle.game_types.specs.declared.refusals.ModuleFault.TheVariants.{TooMany}
use Rattle.game_types.specs.declared.refusals.BeaconFault.{BeaconFault}
use Rattle.game_types.specs.declared.refusals.BeaconFault.TheVariants.{ShareZero}
use Rattle.game_types.specs.declared.setups.BeaconGroup.{BeaconGroup}
use Rattle.game_types.specs.declared.setups.Setup.{Setup}
use Rattle.game_types.specs.declared.games.Game.{Game}
use Rattle.game_types.specs.Sound.{IsSound, IsSoundSetup, IsSoundGroup, IsSoundMachine, IsBeacon, IsBeaconKind}
use Rattle.game_types.specs.Lookups.{machine_at, no_machine}
use Rattle.game_types.specs.Modules.{module_count, slots_hold}
use Rattle.game_types.specs.Beacons.{group_fits, group_modules_fit, beacon_modules_fit, in_beacon, checked_beacons}
use Rattle.game_types.proofs.Walks.{both_ok, fault_none}

slots_more : (slots a n : ℕ) (b : Bool) (fault : ModuleFault) (rest : Result (Unit {0}) ModuleFault) → nat_lt slots a ≡ b → (rest ≡ Ok tt → n ≤ slots - a)
    → (if b then Err fault else rest) ≡ Ok tt → a + n ≤ slots
slots_more slots a n true fault rest e next h = absurd (cc)
slots_more slots a n false fault rest e next h =
    let k : a ≤ slots = grind (arith, nat_tests) in
    let l : n ≤ slots - a = next h in
    omega arith

-- slots hold no more modules than there are
pub slots_count : (slots : ℕ) (ms : List (GoodId × ℕ)) → slots_hold slots ms ≡ Ok tt → module_count ms ≤ slots
unfolding slots_hold module_count
slots_count slots [] h = omega arith
slots_count slots (m ∷ ms) h =
    slots_more slots m.1 (module_count ms) (nat_lt slots m.1) (TooMany m.0) (slots_hold (slots - m.1) ms) refl (λ k. slots_count (slots - m.1) ms k) h

within_of : (xs : List Machine) (i : ℕ) (o : Option Machine) → slice_get xs i ≡ o → IsSomeAnd o (λ m. IsBeaconKind m.kind) → i < length xs
within_of xs i (Some m) e h = slice_get_within xs i m e
within_of xs i None e h = absurd h

beacon_slots : (g : Game) (beacon : EntityId) → IsSound g → IsBeacon g beacon → (machine_at g beacon).slots ≤ 65_535
unfolding machine_at
beacon_slots g beacon s h =
    let m : IsSoundMachine g (machine_at g beacon) = All-get_or (IsSoundMachine g) g.machines beacon.0 no_machine (within_of g.machines beacon.0 (slice_get g.machines beacon.0) refl h) s.machines in
    m.slots

in_ok : (r : Result (Unit {0}) ModuleFault) → in_beacon r ≡ Ok tt → r ≡ Ok tt
in_ok (Ok fine) h = refl
in_ok (Err fault) h = absurd (cc)

shared : (share : ℕ) (b : Bool) (fault : BeaconFault) (r : Result (Unit {0}) ModuleFault) → (share == 0) ≡ b → (if b then Err fault else in_beacon r) ≡ Ok tt → (0 < share) × (r ≡ Ok tt)
shared share true fault r e h = absurd (cc)
shared share false fault r e h = (grind (arith, nat_tests), in_ok r h)

-- what is known of a group that fits
pub record IsFit (group : BeaconGroup) : Type 0 where
  pub shared : 0 < group.share
  pub few : module_count group.modules ≤ 65_535

group_is_fit : (g : Game) (setup : Setup) (group : BeaconGroup) → IsSound g → IsSoundGroup g group → group_fits g setup group ≡ Ok tt → IsFit group
unfolding group_fits group_modules_fit
group_is_fit g setup group s t h =
    let e : (0 < group.share) × (group_modules_fit g setup group ≡ Ok tt) = shared group.share (group.share == 0) (ShareZero group.beacon) (group_modules_fit g setup group) refl h in
    let k : slots_hold (machine_at g group.beacon).slots group.modules ≡ Ok tt = (both_ok (slots_hold (machine_at g group.beacon).slots group.modules) (beacon_modules_fit g (machine_at g group.beacon).allowed (machine_at g setup.machine).allowed setup.activity group.modules) e.1).0 in
    let few : module_count group.modules ≤ (machine_at g group.beacon).slots = slots_count _ group.modules k in
    let most : (machine_at g group.beacon).slots ≤ 65_535 = beacon_slots g group.beacon s t.beacon in
    record { shared = e.0; few = omega arith }

no_group : BeaconGroup
no_group = record { beacon = record { 0 = 0 }; count = 0; share = 0; modules = [] }

fit_at : (g : Game) (setup : Setup) → IsSound g → IsSoundSetup g setup → checked_beacons g setup ≡ Ok tt → (i : ℕ) → i < length setup.beacons → IsFit (get_or setup.beacons i no_group)
unfolding checked_beacons
fit_at g setup s t h i within =
    group_is_fit g setup (get_or setup.beacons i no_group) s (All-get_or (IsSoundGroup g) setup.beacons i no_group within t.beacons)
    (fault_none (group_fits g setup) setup.beacons i no_group within h)

pub all_few : (g : Game) (setup : Setup) → IsSound g → IsSoundSetup g setup → checked_beacons g setup ≡ Ok tt → All (λ group. module_count group.modules ≤ 65_535) setup.beacons
all_few g setup s t h = All-from_get_or (λ (group : BeaconGroup). module_count group.modules ≤ 65_535) setup.beacons no_group (λ i within. (fit_at g setup s t h i within).few)

pub all_shared : (g : Game) (setup : Setup) → IsSound g → IsSoundSetup g setup → checked_beacons g setup ≡ Ok tt → All (λ group. 0 < group.share) setup.beacons
all_shared g setup s t h = All-from_get_or (λ (group : BeaconGroup). 0 < group.share) setup.beacons no_group (λ i within. (fit_at g setup s t h i within).shared)
