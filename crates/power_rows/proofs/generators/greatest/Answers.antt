use Rattle.std.proofs.Common.{sym, subst, arith}
use Rattle.fractions.specs.Fraction.{Fraction, zero_fraction, ◌<ʳ◌}
use Rattle.std.specs.Prelude.{Ok}
use Rattle.game_types.proofs.StepLemmas.{positive_whole}
use Rattle.power_rows.proofs.Positive.{product_positive}
use Rattle.power_rows.proofs.generators.greatest.Goals as goal

pub limited-requires-clause-most : goal.limited-requires-clause-most
limited-requires-clause-most c =
    let sixty : zero_fraction <ʳ c.whole.result = subst (λ (x : Fraction). zero_fraction <ʳ x) (sym c.whole.ensures) (positive_whole 60 (omega arith)) in
    let units : zero_fraction <ʳ c.in_ok-units.units = product_positive 14 c.whole.result c.args.per_tick.now (Ok c.in_ok-units.units) c.in_ok-units.ensures sixty c.requires.per_tick in
    product_positive 14 c.in_ok-units.units c.args.energy.now (Ok c.in_ok-most.most) c.in_ok-most.ensures units c.requires.energy
