use Rattle.std.proofs.Common.{◌-◌}
use Rattle.graph_store.proofs.CommonLemmas.{Sought}
use Rattle.graph_store.proofs.common.place_of.Given as goal

abbrev pub invariant-loop-low : goal.invariant-loop-low
invariant-loop-low l = Sought l.node.0 l.nodes l.low l.high

abbrev pub decreases-loop-low : goal.decreases-loop-low
decreases-loop-low l = l.high - l.low
