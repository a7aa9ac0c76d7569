use Rattle.std.proofs.Common.{◌∙◌, ◌+◌, ap, sym, drop, arith}
use Rattle.game_types.specs.Temperatures.{coolest, is_fit_variant}
use Rattle.game_types.proofs.ChoiceLemmas.{coolest_next}
use Rattle.game_types.proofs.choices.coolest.Goals as goal

pub loop-fluid-preserved : goal.loop-fluid-preserved
loop-fluid-preserved c =
    let test = is_fit_variant c.args.base.0 c.args.low.now c.args.high.now in
    record {
      best = c.loop-fluid.invariant.best
          ∙ coolest_next test c.loop-fluid.best c.loop-fluid.number c.loop-fluid.fluid-index c.args.fluids.now c.fluid-item.result c.loop-fluid-test.true c.fluid-item.is
          ∙ ap (λ b. coolest test b (c.loop-fluid.number + 1) (drop (c.loop-fluid.fluid-index + 1) c.args.fluids.now)) (sym c.better-best.ensures);
      number = let e = c.loop-fluid.invariant.number in omega arith;
    }
