use Rattle.std.proofs.Common.{sym, subst}
use Rattle.game_types.specs.Lookups.{source_at, no_source}
use Rattle.game_types.specs.Sound.{IsSoundSource}
use Rattle.depend_rows.proofs.rows.source_at.Goals as goal

pub returns-clause-sound : goal.returns-clause-sound
unfolding source_at
returns-clause-sound c = subst (IsSoundSource c.args.game.now) (sym c.source.ensures) (c.requires.sound.sources c.args.number no_source c.requires.within)
