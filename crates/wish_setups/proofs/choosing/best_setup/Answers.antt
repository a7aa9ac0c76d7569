-- The number of the best machine is one of a machine.
use Rattle.std.proofs.Common.{length}
use Rattle.wish_setups.specs.Choice.{rank_of_machine}
use Rattle.wish_setups.proofs.RankLemmas.{best_within}
use Rattle.wish_setups.proofs.choosing.best_setup.Goals as goal

pub setup_of_best-requires-clause-within : goal.setup_of_best-requires-clause-within
setup_of_best-requires-clause-within c =
    let a = c.args in
    best_within (rank_of_machine a.game.now a.state.reached.now a.wish.now a.state.mined.now a.state.fuels.now a.activity a.at.now) (length a.game.now.machines) c.in_ok-best.best c.in_ok-best.ensures
