use Rattle.std.proofs.Common.{List, sym, subst}
use Rattle.game_types.specs.declared.setups.BeaconGroup.{BeaconGroup}
use Rattle.game_types.specs.Sound.{IsSoundSetup}
use Rattle.table_rows.proofs.NameLemmas.{in_added}
use Rattle.table_rows.proofs.named_setups.with_module_in.Goals as goal

pub returns-clause-sound : goal.returns-clause-sound
returns-clause-sound c =
    subst (λ (groups : List BeaconGroup). IsSoundSetup c.args.game.now (record c.args.setup { beacons = groups })) (sym c.in_ok-beacons.ensures)
    (in_added c.args.game.now c.args.setup (c.in_ok-good.good, c.args.count) c.requires.sound c.in_ok-good.ensures.sound)
