use Rattle.std.specs.Prelude.{Option, IfSome}
use Rattle.std.proofs.Common.{sym, subst}
use Rattle.fractions.specs.Fraction.{zero_fraction, ◌<ʳ◌}
use Rattle.game_types.specs.declared.goods.Fuel.{Fuel}
use Rattle.game_types.proofs.FuelLemmas.{fuel_positive}
use Rattle.research_rows.proofs.labs.lab_rates.Goals as goal

pub lab_rates_with-requires-clause-fuel : goal.lab_rates_with-requires-clause-fuel
lab_rates_with-requires-clause-fuel c =
    subst (λ (o : Option Fuel). IfSome o (λ fuel. zero_fraction <ʳ fuel.value)) (sym c.setup_fuel-fuel.ensures) (fuel_positive c.args.game.now c.args.setup.now c.requires.fuel)
