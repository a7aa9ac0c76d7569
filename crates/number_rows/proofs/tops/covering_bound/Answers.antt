use Rattle.std.proofs.Common.{◌≡◌, ◌∙◌, ap, arith, unsigned_abs}
use Rattle.number_rows.specs.Tops.{top_at}
use Rattle.number_rows.proofs.Lists.{back, within_one}
use Rattle.number_rows.proofs.tops.covering_bound.Goals as goal

pub loop-k-preserved : goal.loop-k-preserved
loop-k-preserved c =
    let k = c.loop-k.k in
    let m = c.cover-most in
    let small = c.requires k (omega arith) in
    let same : c.unsigned_abs.result ≡ unsigned_abs (top_at c.args.tops.now k) = c.unsigned_abs.ensures.value ∙ ap unsigned_abs (back (top_at c.args.tops.now k) (omega (arith, small))) in (
      within_one c.args.tops.now c.loop-k.most m.result k m.ensures.first (omega (arith, same, m.ensures.second)) c.loop-k.invariant.0,
      m.ensures.small c.loop-k.invariant.1 (omega (arith, same, small)),
    )
