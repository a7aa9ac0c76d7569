-- One lane more is looked at.
use Rattle.std.proofs.Common.{◌≡◌, ◌∙◌, false, sym, ap, get_or, arith}
use Rattle.reach_incremental.specs.Keys.{lane_key, least_below}
use Rattle.reach_incremental.proofs.LaneLemmas.{least-more, least-zero}
use Rattle.reach_incremental.proofs.keys.least_key.Goals as goal

pub loop-l-init : goal.loop-l-init
loop-l-init c = sym (least-zero (λ i. lane_key (get_or c.args.live.now i false) (get_or c.args.kept.now i 0) (get_or c.args.by_row.now i 0)))

pub loop-l-preserved : goal.loop-l-preserved
loop-l-preserved c =
    least-more
    (λ i. lane_key (get_or c.args.live.now i false) (get_or c.args.kept.now i 0) (get_or c.args.by_row.now i 0))
    c.loop-l.l
    c.loop-l.least
    c.lane_key.result
    c.earlier-least.result
    c.loop-l.invariant
    c.lane_key.ensures
    c.earlier-least.ensures.value

pub returns : goal.returns
returns c =
    let e : c.loop-l.l ≡ 16 = omega arith in
    c.loop-l.invariant ∙ ap (least_below (λ i. lane_key (get_or c.args.live.now i false) (get_or c.args.kept.now i 0) (get_or c.args.by_row.now i 0))) e
