use Rattle.std.proofs.Common.{lit<}
use Rattle.prototype_fields.proofs.NumbersLemmas.{part_narrow, whole_not_zero}
use Rattle.prototype_fields.proofs.numbers.thirtieth.Goals as goal

pub div-requires : goal.div-requires
div-requires c = rw c.whole.ensures (whole_not_zero 30 (lit< tt))

pub unreachable-requires : goal.unreachable-requires
unreachable-requires c = c.in-Err.ensures (rw c.whole.ensures (part_narrow c.args.number.now 30 (lit< tt) (lit< tt) c.requires))
