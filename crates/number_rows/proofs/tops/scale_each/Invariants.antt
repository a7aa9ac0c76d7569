use Rattle.number_rows.proofs.Lists.{IsRaisedBelow}
use Rattle.number_rows.proofs.tops.scale_each.Given as goal

abbrev pub invariant-loop-k : goal.invariant-loop-k
invariant-loop-k l = IsRaisedBelow l.initial.tops l.scale l.tops l.k
