use Rattle.std.proofs.Common.{◌∙◌, ap, get_or, sym}
use Rattle.rocket_launches.specs.Clashes.{ends_with, joined}
use Rattle.rocket_launches.proofs.MiddleEnds.{among_none, among_one}
use Rattle.rocket_launches.proofs.cargo_middles.middles_of.Goals as goal

pub loop-good-init : goal.loop-good-init
loop-good-init c = record {
  within = λ middle beyond. c.no_middles-table.ensures middle;
  each = λ middle. c.no_middles-table.ensures middle ∙ sym (among_none c.args.game.now c.args.cargo.now middle);
}

pub loop-good-preserved : goal.loop-good-preserved
loop-good-preserved c = record {
  within = c.in_ok-put_cargo.ensures.within;
  each = λ middle.
      c.in_ok-put_cargo.ensures.put middle
      ∙ ap (λ a. joined a (ends_with c.args.game.now middle (get_or c.args.cargo.now c.loop-good.good-index (record { 0 = 0 })))) (c.loop-good.invariant.each middle)
      ∙ sym (among_one c.args.game.now c.args.cargo.now middle c.loop-good.good-index (record { 0 = 0 }) c.loop-good-test.true);
}
