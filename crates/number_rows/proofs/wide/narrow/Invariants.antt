use Rattle.number_rows.proofs.Broad.{AreSameBelow}
use Rattle.number_rows.proofs.wide.narrow.Given as goal

abbrev pub invariant-loop-k : goal.invariant-loop-k
invariant-loop-k l = AreSameBelow l.wides l.tops l.k
