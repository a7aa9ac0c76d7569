use Rattle.std.specs.Prelude.{◌≡◌, pos}
use Rattle.std.proofs.Common.{ap, sym, subst, ◌∙◌, arith}
use Rattle.fractions.specs.Fraction.{Fraction, zero_fraction, whole_fraction, ◌<ʳ◌, ◌*ʳ◌}
use Rattle.fractions.proofs.Order.{positive-*ʳ}
use Rattle.game_types.proofs.StepLemmas.{multiplied_value, positive_whole}
use Rattle.machine_rates.proofs.rates.pumps_at.Goals as goal

pub divided-requires : goal.divided-requires
divided-requires c =
    let e : c.in_ok-units.units ≡ whole_fraction (pos 60) *ʳ c.args.speed.now
    = multiplied_value 4 c.whole.result c.args.speed.now c.in_ok-units.units c.in_ok-units.ensures ∙ ap (λ (x : Fraction). x *ʳ c.args.speed.now) c.whole.ensures in
    subst (λ (x : Fraction). zero_fraction <ʳ x) (sym e) (positive-*ʳ (whole_fraction (pos 60)) c.args.speed.now (positive_whole 60 (omega arith)) c.requires)
