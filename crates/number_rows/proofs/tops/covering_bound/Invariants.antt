use Rattle.std.proofs.Common.{◌<◌, ◌^◌}
use Rattle.number_rows.specs.Tops.{AreWithinBelow}
use Rattle.number_rows.proofs.tops.covering_bound.Given as goal

abbrev pub invariant-loop-k : goal.invariant-loop-k
invariant-loop-k l = AreWithinBelow l.tops l.most l.k × (l.most < 2 ^ 62)
