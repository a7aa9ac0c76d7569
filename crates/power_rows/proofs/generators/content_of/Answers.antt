use Rattle.power_rows.proofs.Positive.{burns_value}
use Rattle.power_rows.proofs.generators.content_of.Goals as goal

pub returns-then-burns-clause-positive : goal.returns-then-burns-clause-positive
returns-then-burns-clause-positive c = burns_value c.args.burns c.args.fluid.now c.args.max_temperature.now c.if-burns.true c.requires
