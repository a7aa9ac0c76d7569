use Rattle.std.specs.Prelude.{◌≡◌, Option, IfSome, false}
use Rattle.std.proofs.Common.{sym, subst}
use Rattle.fractions.specs.Fraction.{zero_fraction, ◌<ʳ◌}
use Rattle.game_types.specs.declared.goods.Fluid.{Fluid}
use Rattle.game_types.specs.declared.goods.Fuel.{Fuel}
use Rattle.game_types.specs.declared.machinery.Machine.{Machine}
use Rattle.game_types.specs.Lookups.{machine_at}
use Rattle.game_types.proofs.FuelLemmas.{fuel_positive}
use Rattle.power_rows.specs.Power.{gives_nothing}
use Rattle.power_rows.proofs.Positive.{checked_gives}
use Rattle.power_rows.proofs.rates.power_rates.Goals as goal

pub power_rates_with-requires-clause-fuel : goal.power_rates_with-requires-clause-fuel
power_rates_with-requires-clause-fuel c =
    subst (λ (o : Option Fuel). IfSome o (λ fuel. zero_fraction <ʳ fuel.value)) (sym c.setup_fuel-fuel.ensures) (fuel_positive c.args.game.now c.args.setup.now c.requires.fuel)

pub power_rates_with-requires-clause-gives : goal.power_rates_with-requires-clause-gives
power_rates_with-requires-clause-gives c =
    subst (λ (m : Machine). gives_nothing c.fluid_in-fluid.result m.usage m.kind ≡ false) (sym c.machine.ensures.value)
    (subst (λ (f : Fluid). gives_nothing f (machine_at c.args.game.now c.args.setup.now.machine).usage (machine_at c.args.game.now c.args.setup.now.machine).kind ≡ false) (sym c.fluid_in-fluid.ensures)
    (checked_gives c.args.game.now c.args.setup.now c.requires.checked))
