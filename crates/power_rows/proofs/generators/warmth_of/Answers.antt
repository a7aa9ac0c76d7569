use Rattle.std.proofs.Common.{sym, subst, ◌∙◌, ap}
use Rattle.fractions.specs.Fraction.{Fraction, zero_fraction, ◌<ʳ◌, ◌-ʳ◌}
use Rattle.power_rows.proofs.Positive.{product_positive, warm_capacity, warm_rise, subtracted_value}
use Rattle.power_rows.proofs.generators.warmth_of.Goals as goal

pub returns-clause-positive : goal.returns-clause-positive
returns-clause-positive c =
    let rise : zero_fraction <ʳ c.in_ok-rise.rise
    = subst (λ (x : Fraction). zero_fraction <ʳ x)
    (sym (subtracted_value 13 c.at_most.result c.args.fluid.now.default_temperature c.in_ok-rise.rise c.in_ok-rise.ensures ∙ ap (λ (x : Fraction). x -ʳ c.args.fluid.now.default_temperature) c.at_most.ensures))
    (warm_rise c.args.fluid.now c.args.max_temperature.now c.requires) in
    product_positive 13 c.args.fluid.now.heat_capacity c.in_ok-rise.rise c.multiplied.result c.multiplied.ensures (warm_capacity c.args.fluid.now c.args.max_temperature.now c.requires) rise
