use Rattle.power_rows.proofs.Positive.{burner_output, panel_production}
use Rattle.power_rows.proofs.rates.power_rates_with.Goals as goal

pub burning-requires-clause-output : goal.burning-requires-clause-output
burning-requires-clause-output c = burner_output c.args.fluid.now c.args.machine.now.usage c.args.machine.now.kind c.in-BurnerGenerator.output c.in-BurnerGenerator.is c.requires.gives

pub shining-requires : goal.shining-requires
shining-requires c = record { production = panel_production c.args.fluid.now c.args.machine.now.usage c.args.machine.now.kind c.in-Solar.production c.in-Solar.is c.requires.gives }
