use Rattle.std.proofs.Common.{pos}
use Rattle.number_rows.proofs.Lists.{IsRaisedBelow}
use Rattle.number_rows.proofs.lowering.raise_first.Given as goal

abbrev pub invariant-loop-k : goal.invariant-loop-k
invariant-loop-k l = IsRaisedBelow l.initial.quotients (pos l.factor) l.quotients l.k
