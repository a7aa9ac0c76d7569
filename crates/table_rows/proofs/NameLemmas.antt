-- Set-ups that grow part by part stay sound.
use Rattle.std.proofs.Common.{◌≡◌, ◌∙◌, ℕ, ◌+◌, ◌<◌, ◌≤◌, List, [], ◌∷◌, ◌++◌, length, get_or, Bool, true, false, Option, Some, Result, Ok, Err, drop, refl, sym, ap, subst}
use Rattle.std.specs.Prelude.{All, IsSome, IsSomeAnd, is_some}
use Rattle.std.specs.Bool.{OnTrue}
use Rattle.std.proofs.lemmas.List.Elements.{All-nil, All-cons, All-head, All-tail, All-push}
use Rattle.std.proofs.lemmas.Option.{slice_get-get_or}
use Rattle.plan_base.specs.declared.ids.EntityId.{EntityId}
use Rattle.plan_base.specs.declared.ids.GoodId.{GoodId}
use Rattle.game_types.specs.declared.goods.Item.{Item}
use Rattle.game_types.specs.declared.machinery.Machine.{Machine}
use Rattle.game_types.specs.declared.machinery.MachineKind.{MachineKind}
use Rattle.game_types.specs.declared.machinery.MachineKind.TheVariants.{Crafter, Drill, Pump, Boiler, Generator, BurnerGenerator, Solar, Reactor, Lab, Beacon}
use Rattle.game_types.specs.declared.setups.BeaconGroup.{BeaconGroup}
use Rattle.game_types.specs.declared.setups.Setup.{Setup}
use Rattle.game_types.specs.declared.games.Game.{Game}
use Rattle.game_types.specs.Lookups.{item_at, machine_at, no_item, no_machine}
use Rattle.game_types.specs.Sound.{IsBeacon, IsBeaconKind, IsFluid, IsModule, IsSoundGroup, IsSoundSetup}
use Rattle.game_types.specs.Steps.{◌▸◌}
use Rattle.game_types.proofs.Walks.{next as next_of, drop_all}
use Rattle.plan_lines.specs.declared.change.RowPart.{RowPart}
use Rattle.table_rows.specs.declared.refusals.TableRefusal.{TableRefusal}
use Rattle.table_rows.specs.Names.{group_of, in_last, is_beacon, with_part, with_parts}

-- ---- modules and beacons
module_there : (g : Game) (good : GoodId) → good.0 < length g.items → is_some (item_at g good).«module» ≡ true → IsModule g good
unfolding item_at
module_there g good h k = subst (λ (o : Option Item). IsSomeAnd o (λ item. IsSome item.«module»)) (sym (slice_get-get_or g.items good.0 no_item h)) k

module_tested : (g : Game) (good : GoodId) (b c : Bool) → good.0 < length g.items → c ≡ b → is_some (item_at g good).«module» ≡ c → OnTrue b (IsModule g good)
module_tested g good true c h e k = module_there g good h (k ∙ e)
module_tested g good false c h e k = tt

pub module_sound : (g : Game) (good : GoodId) (b : Bool) → good.0 < length g.items → b ≡ is_some (item_at g good).«module» → OnTrue b (IsModule g good)
module_sound g good b h e = module_tested g good b b h refl (sym e)

beacon_kind : (kind : MachineKind) → is_beacon kind ≡ true → IsBeaconKind kind
beacon_kind (Beacon effectivity) h = tt
beacon_kind (Crafter speed categories fixed) h = absurd (cc)
beacon_kind (Drill speed categories fluid_box) h = absurd (cc)
beacon_kind (Pump fluid speed) h = absurd (cc)
beacon_kind (Boiler input output temperature) h = absurd (cc)
beacon_kind (Generator input effectivity per_tick max_temperature burns output) h = absurd (cc)
beacon_kind (BurnerGenerator output) h = absurd (cc)
beacon_kind (Solar production) h = absurd (cc)
beacon_kind Reactor h = absurd (cc)
beacon_kind (Lab inputs speed) h = absurd (cc)

pub beacon_sound : (g : Game) (machine : EntityId) → machine.0 < length g.machines → is_beacon (machine_at g machine).kind ≡ true → IsBeacon g machine
unfolding machine_at
beacon_sound g machine h k = subst (λ (o : Option Machine). IsSomeAnd o (λ m. IsBeaconKind m.kind)) (sym (slice_get-get_or g.machines machine.0 no_machine h)) (beacon_kind _ k)

-- ---- modules of the last beacons
pub in_last_push : (groups : List BeaconGroup) (group : BeaconGroup) (added : GoodId × ℕ) → in_last added (groups ++ group ∷ []) ≡ groups ++ (record group { modules = group.modules ++ added ∷ [] }) ∷ []
in_last_push [] group added = refl
in_last_push (one ∷ []) group added = refl
in_last_push (one ∷ other ∷ groups) group added = ap (λ rest. one ∷ rest) (in_last_push (other ∷ groups) group added)

in_last_sound : (g : Game) (groups : List BeaconGroup) (added : GoodId × ℕ) → All (IsSoundGroup g) groups → IsModule g added.0 → All (IsSoundGroup g) (in_last added groups)
in_last_sound g [] added hs h = hs
in_last_sound g (group ∷ []) added hs h =
    let old : IsSoundGroup g group = All-head (IsSoundGroup g) group [] hs in
    All-cons (IsSoundGroup g) (record group { modules = group.modules ++ added ∷ [] }) []
    (record { beacon = old.beacon; modules = All-push (λ m. IsModule g m.0) group.modules added old.modules h }) (All-nil (IsSoundGroup g))
in_last_sound g (group ∷ next ∷ groups) added hs h =
    All-cons (IsSoundGroup g) group (in_last added (next ∷ groups)) (All-head (IsSoundGroup g) group (next ∷ groups) hs)
    (in_last_sound g (next ∷ groups) added (All-tail (IsSoundGroup g) group (next ∷ groups) hs) h)

-- ---- a sound set-up with a part more
pub fuel_added : (g : Game) (setup : Setup) (good : GoodId) → IsSoundSetup g setup → good.0 < length g.items → IsSoundSetup g (record setup { fuel = Some good })
fuel_added g setup good s h = record { activity = s.activity; machine = s.machine; fuel = h; modules = s.modules; beacons = s.beacons; at = s.at }

pub module_added : (g : Game) (setup : Setup) (added : GoodId × ℕ) → IsSoundSetup g setup → IsModule g added.0 → IsSoundSetup g (record setup { modules = setup.modules ++ added ∷ [] })
module_added g setup added s h = record { activity = s.activity; machine = s.machine; fuel = s.fuel; modules = All-push (λ m. IsModule g m.0) setup.modules added s.modules h; beacons = s.beacons; at = s.at }

pub beacon_added : (g : Game) (setup : Setup) (beacon : EntityId) (count share : ℕ) → IsSoundSetup g setup → IsBeacon g beacon → IsSoundSetup g (record setup { beacons = setup.beacons ++ group_of beacon count share ∷ [] })
beacon_added g setup beacon count share s h =
    let group : IsSoundGroup g (group_of beacon count share) = record { beacon = h; modules = All-nil (λ m. IsModule g m.0) } in
    record { activity = s.activity; machine = s.machine; fuel = s.fuel; modules = s.modules; beacons = All-push (IsSoundGroup g) setup.beacons (group_of beacon count share) s.beacons group; at = s.at }

pub in_added : (g : Game) (setup : Setup) (added : GoodId × ℕ) → IsSoundSetup g setup → IsModule g added.0 → IsSoundSetup g (record setup { beacons = in_last added setup.beacons })
in_added g setup added s h = record { activity = s.activity; machine = s.machine; fuel = s.fuel; modules = s.modules; beacons = in_last_sound g setup.beacons added s.beacons h; at = s.at }

pub fluid_added : (g : Game) (setup : Setup) (good : GoodId) → IsSoundSetup g setup → IsFluid g good.0 → IsSoundSetup g (record setup { at = setup.at ++ good ∷ [] })
fluid_added g setup good s h = record { activity = s.activity; machine = s.machine; fuel = s.fuel; modules = s.modules; beacons = s.beacons; at = All-push (λ f. IsFluid g f.0) setup.at good s.at h }

-- ---- one part after another
pub parts_next : (g : Game) (parts : List RowPart) (k : ℕ) (part : RowPart) (setup next : Setup) → k < length parts → part ≡ get_or parts k part → with_part g part setup ≡ Ok next
    → with_parts g (drop (k + 1) parts) next ≡ with_parts g (drop k parts) setup
unfolding with_parts
parts_next g parts k part setup next h e w =
    sym (ap (λ (ps : List RowPart). with_parts g ps setup) (next_of parts k part h e) ∙ ap (λ (r : Result Setup TableRefusal). r ▸ λ s. with_parts g (drop (k + 1) parts) s) w)

pub parts_stop : (g : Game) (parts : List RowPart) (k : ℕ) (part : RowPart) (setup : Setup) (refusal : TableRefusal) → k < length parts → part ≡ get_or parts k part → with_part g part setup ≡ Err refusal
    → with_parts g (drop k parts) setup ≡ Err refusal
unfolding with_parts
parts_stop g parts k part setup refusal h e w =
    ap (λ (ps : List RowPart). with_parts g ps setup) (next_of parts k part h e) ∙ ap (λ (r : Result Setup TableRefusal). r ▸ λ s. with_parts g (drop (k + 1) parts) s) w

pub parts_end : (g : Game) (parts : List RowPart) (k : ℕ) (setup : Setup) → length parts ≤ k → with_parts g (drop k parts) setup ≡ Ok setup
unfolding with_parts
parts_end g parts k setup h = ap (λ (ps : List RowPart). with_parts g ps setup) (drop_all parts k h)
