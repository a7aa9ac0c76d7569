use Rattle.std.specs.Prelude.{◌<◌, All, List}
use Rattle.std.proofs.Common.{sym, subst}
use Rattle.game_types.specs.declared.setups.BeaconGroup.{BeaconGroup}
use Rattle.game_types.proofs.BeaconLemmas.{all_shared}
use Rattle.beacon_effects.proofs.power.beacon_power.Goals as goal

pub power_sum-requires-clause-shared : goal.power_sum-requires-clause-shared
power_sum-requires-clause-shared c =
    subst (λ (groups : List BeaconGroup). All (λ group. 0 < group.share) groups) (sym c.as_slice.ensures)
    (all_shared c.args.game.now c.args.setup.now c.requires.sound c.requires.setup c.requires.checked)
