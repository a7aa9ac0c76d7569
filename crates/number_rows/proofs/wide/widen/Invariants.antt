use Rattle.number_rows.proofs.Broad.{AreSameBelow}
use Rattle.number_rows.proofs.wide.widen.Given as goal

abbrev pub invariant-loop-k : goal.invariant-loop-k
invariant-loop-k l = AreSameBelow l.tops l.wides l.k
