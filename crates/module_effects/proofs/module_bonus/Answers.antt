use Rattle.std.specs.Prelude.{◌≡◌, ◌≤◌, List, Ok, ℕ}
use Rattle.std.proofs.Common.{sym, subst, arith}
use Rattle.std.proofs.lemmas.List.Elements.{All-get_or}
use Rattle.plan_base.specs.declared.ids.GoodId.{GoodId}
use Rattle.game_types.specs.declared.setups.Setup.{Setup}
use Rattle.game_types.specs.declared.games.Game.{Game}
use Rattle.game_types.specs.Lookups.{machine_at, no_machine}
use Rattle.game_types.specs.Modules.{checked_modules, module_count, modules_fit, slots_hold}
use Rattle.game_types.specs.Sound.{IsSound, IsSoundMachine, IsSoundSetup}
use Rattle.game_types.proofs.BeaconLemmas.{slots_count}
use Rattle.game_types.proofs.Walks.{both_ok}
use Rattle.module_effects.proofs.module_bonus.Goals as goal

few : (g : Game) (setup : Setup) → IsSound g → IsSoundSetup g setup → checked_modules g setup ≡ Ok tt → module_count setup.modules ≤ 65_535
unfolding checked_modules machine_at
few g setup sound fits checked =
    let held : slots_hold (machine_at g setup.machine).slots setup.modules ≡ Ok tt
    = (both_ok (slots_hold (machine_at g setup.machine).slots setup.modules) (modules_fit g (machine_at g setup.machine).allowed setup.activity setup.modules) checked).0 in
    let machine : IsSoundMachine g (machine_at g setup.machine) = All-get_or (IsSoundMachine g) g.machines setup.machine.0 no_machine fits.machine sound.machines in
    let counted : module_count setup.modules ≤ (machine_at g setup.machine).slots = slots_count _ setup.modules held in
    let most : (machine_at g setup.machine).slots ≤ 65_535 = machine.slots in
    omega arith

pub total_bonus-requires-clause-few : goal.total_bonus-requires-clause-few
total_bonus-requires-clause-few c =
    subst (λ (modules : List (GoodId × ℕ)). module_count modules ≤ 65_535) (sym c.as_slice.ensures)
    (few c.args.game.now c.args.setup.now c.requires.sound c.requires.setup c.requires.checked)
