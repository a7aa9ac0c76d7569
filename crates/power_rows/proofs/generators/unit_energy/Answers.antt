use Rattle.power_rows.proofs.Positive.{product_positive}
use Rattle.power_rows.proofs.generators.unit_energy.Goals as goal

pub returns-clause-positive : goal.returns-clause-positive
returns-clause-positive c = product_positive 13 c.in_ok-content.content c.args.effectivity.now c.multiplied.result c.multiplied.ensures c.in_ok-content.ensures.positive c.requires.effectivity
