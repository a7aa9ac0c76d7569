use Rattle.std.proofs.Common.{subst, sym}
use Rattle.game_types.specs.Sound.{ArePlain}
use Rattle.game_reader.proofs.dump.finish.Goals as goal

pub split_fluids-requires-clause-plain : goal.split_fluids-requires-clause-plain
split_fluids-requires-clause-plain c = subst ArePlain (sym c.in_ok-game.ensures.fluids) c.requires.plain
