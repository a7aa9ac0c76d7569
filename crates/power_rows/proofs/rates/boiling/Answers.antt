use Rattle.power_rows.proofs.Positive.{boiler_usage}
use Rattle.power_rows.proofs.rates.boiling.Goals as goal

pub divided-requires : goal.divided-requires
divided-requires c = boiler_usage c.args.fluid.now c.args.temperature.now c.args.machine.now.usage c.requires.heats
