use Rattle.number_rows.proofs.Lists.{AreOverBelow}
use Rattle.number_rows.proofs.wide.write_wide.Given as goal

abbrev pub invariant-loop-k : goal.invariant-loop-k
invariant-loop-k l = AreOverBelow l.tops l.bottom l.numbers l.k
