use Rattle.std.proofs.Common.{arith, pos}
use Rattle.number_rows.specs.Tops.{top_at}
use Rattle.number_rows.proofs.Lists.{raised_more}
use Rattle.number_rows.proofs.Wider.{raised_at}
use Rattle.number_rows.proofs.lowering.raise_first.Goals as goal

pub loop-k-preserved : goal.loop-k-preserved
loop-k-preserved c =
    let k = c.loop-k.k in
    let q = top_at c.args.quotients.now k in
    raised_more c.args.quotients.now (pos c.args.factor) c.loop-k.quotients k _ (omega arith)
    (raised_at (top_at c.loop-k.quotients k) q c.args.factor (c.loop-k.invariant.rest k (omega arith)) (c.requires.below k (omega arith)) c.requires.factor (c.requires.small k (omega arith))) c.loop-k.invariant
