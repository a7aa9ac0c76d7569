use Rattle.fluid_variants.proofs.SplittingLemmas.{answer_sound}
use Rattle.fluid_variants.proofs.splitting.split_fluids.Goals as goal

pub returns-clause-sound : goal.returns-clause-sound
returns-clause-sound c = answer_sound c.args.game c.requires.sound c.with_variants.result c.with_variants.ensures
