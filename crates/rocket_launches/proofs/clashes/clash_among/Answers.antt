use Rattle.std.proofs.Common.{◌∙◌, ap, sym}
use Rattle.std.specs.Prelude.{option_and_then, slice_get}
use Rattle.rocket_launches.specs.Clashes.{clash_with, least_below, sooner}
use Rattle.rocket_launches.proofs.Earliest.{one_at}
use Rattle.rocket_launches.proofs.clashes.clash_among.Goals as goal

pub loop-good-preserved : goal.loop-good-preserved
loop-good-preserved c =
    c.sooner-least.ensures
    ∙ ap (λ a. sooner a c.clash_with.result) c.loop-good.invariant
    ∙ ap (sooner (least_below (λ k. option_and_then (clash_with c.args.game.now c.args.short.now c.args.long.now c.args.middle.now) (slice_get c.args.cargo.now k)) c.loop-good.good-index)) c.clash_with.ensures
    ∙ sym (one_at (clash_with c.args.game.now c.args.short.now c.args.long.now c.args.middle.now) c.args.cargo.now c.loop-good.good-index (record { 0 = 0 }) c.loop-good-test.true)
