use Rattle.std.proofs.Common.{◌≡◌}
use Rattle.wish_setups.specs.Choice.{best_below, rank_of_machine}
use Rattle.wish_setups.proofs.choosing.best_machine.Given as goal

abbrev pub invariant-loop-number : goal.invariant-loop-number
invariant-loop-number l = l.best ≡ best_below (rank_of_machine l.game l.state.reached.now l.wish l.state.mined.now l.state.fuels.now l.activity l.at) l.number
