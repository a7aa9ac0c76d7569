use Rattle.std.specs.Prelude.{◌≤◌, All, List}
use Rattle.std.proofs.Common.{sym, subst}
use Rattle.game_types.specs.declared.setups.BeaconGroup.{BeaconGroup}
use Rattle.game_types.specs.Modules.{module_count}
use Rattle.game_types.proofs.BeaconLemmas.{all_few}
use Rattle.beacon_effects.proofs.sums.beacon_bonus.Goals as goal

pub bonus_sums-requires-clause-few : goal.bonus_sums-requires-clause-few
bonus_sums-requires-clause-few c =
    subst (λ (groups : List BeaconGroup). All (λ group. module_count group.modules ≤ 65_535) groups) (sym c.as_slice.ensures)
    (all_few c.args.game.now c.args.setup.now c.requires.sound c.requires.setup c.requires.checked)
