use Rattle.number_rows.proofs.Lists.{IsNegatedBelow}
use Rattle.number_rows.proofs.tops.negate_all.Given as goal

abbrev pub invariant-loop-k : goal.invariant-loop-k
invariant-loop-k l = IsNegatedBelow l.initial.tops l.tops l.k
