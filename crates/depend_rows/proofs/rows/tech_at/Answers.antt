use Rattle.std.proofs.Common.{sym, subst}
use Rattle.game_types.specs.Sound.{IsSoundTech}
use Rattle.game_types.proofs.Walks.{read_at}
use Rattle.depend_rows.specs.Rows.{tech_at, no_tech}
use Rattle.depend_rows.proofs.rows.tech_at.Goals as goal

pub returns-clause-value : goal.returns-clause-value
unfolding tech_at
returns-clause-value c = read_at c.as_slice.result.now c.args.game.now.techs c.args.number c.index-as_slice-number.result no_tech c.index-as_slice-number.is c.as_slice.ensures c.requires.within

pub returns-clause-sound : goal.returns-clause-sound
unfolding tech_at
returns-clause-sound c = subst (IsSoundTech c.args.game.now) (sym (read_at c.as_slice.result.now c.args.game.now.techs c.args.number c.index-as_slice-number.result no_tech c.index-as_slice-number.is c.as_slice.ensures c.requires.within)) (c.requires.sound.techs c.args.number no_tech c.requires.within)
