use Rattle.game_reader.proofs.OneGame.{one, faultless}
use Rattle.game_reader.proofs.laws.one_game.Goals as goal

pub returns-clause-one : goal.returns-clause-one
returns-clause-one c = one c.one_tree.ensures

pub returns-clause-faultless : goal.returns-clause-faultless
returns-clause-faultless c = λ dump game fault has other. faultless c.one_tree.ensures dump game fault fault.code has other
