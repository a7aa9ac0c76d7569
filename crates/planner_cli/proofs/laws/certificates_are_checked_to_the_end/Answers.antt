use Rattle.planner_cli.proofs.RecheckLemmas.{check_done}
use Rattle.planner_cli.proofs.laws.certificates_are_checked_to_the_end.Goals as goal

pub returns : goal.returns
returns c = check_done (record { one = c.one_game.ensures.one; faultless = c.one_game.ensures.faultless })
