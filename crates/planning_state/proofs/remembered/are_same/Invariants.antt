use Rattle.planning_state.proofs.RememberedLemmas.{HaveSame}
use Rattle.planning_state.proofs.remembered.are_same.Given as goal

abbrev pub invariant-loop-n : goal.invariant-loop-n
invariant-loop-n l = HaveSame l.n l.left l.right
