use Rattle.planner_core.proofs.ListLemmas.{Totalled}
use Rattle.planner_core.proofs.reached.totals_of.Given as goal

abbrev pub invariant-loop-n : goal.invariant-loop-n
invariant-loop-n l = Totalled l.planning l.n l.end l.totals.reached l.totals.bits
