use Rattle.rocket_launches.proofs.SoundLaunches.{answer_fluids, answer_sound}
use Rattle.rocket_launches.proofs.adding.add_launches.Goals as goal

pub returns-clause-sound : goal.returns-clause-sound
returns-clause-sound c = answer_sound c.args.game c.requires c.launched.result c.launched.ensures

pub returns-clause-fluids : goal.returns-clause-fluids
returns-clause-fluids c = answer_fluids c.args.game c.requires c.launched.result c.launched.ensures
