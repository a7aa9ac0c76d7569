use Rattle.game_types.proofs.FuelLemmas.{effectivity_positive}
use Rattle.research_rows.proofs.labs.lab_rates_with.Goals as goal

pub fuel_of-requires-clause-effectivity : goal.fuel_of-requires-clause-effectivity
fuel_of-requires-clause-effectivity c = effectivity_positive c.args.game.now c.args.machine.now.energy c.requires.machine.energy
