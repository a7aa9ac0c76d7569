use Rattle.std.proofs.Common.{◌<◌, ◌^◌, pos}
use Rattle.number_rows.proofs.Broad.{IsDividedTo}
use Rattle.number_rows.specs.Tops.{AreWithinBelow}
use Rattle.number_rows.proofs.wide.divide_wide.Given as goal

abbrev pub invariant-loop-k : goal.invariant-loop-k
invariant-loop-k l = IsDividedTo l.initial.tops (pos l.scale) l.others l.factor l.divisor l.tops l.k × AreWithinBelow l.tops l.most l.k × (l.most < 2 ^ 125)
