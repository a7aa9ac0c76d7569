use Rattle.planning_state.proofs.RememberedLemmas.{have-same}
use Rattle.planning_state.proofs.remembered.are_same.Goals as goal

pub returns : goal.returns
returns c = have-same c.loop-n.n c.args.left.now c.args.right.now c.loop-n-test.false c.loop-n.invariant
