use Rattle.power_rows.proofs.Positive.{generator_tick}
use Rattle.power_rows.proofs.generators.generating.Goals as goal

pub greatest-requires-clause-per_tick : goal.greatest-requires-clause-per_tick
greatest-requires-clause-per_tick c =
    generator_tick c.args.fluid.now c.args.machine.now.usage c.args.machine.now.kind c.in-Generator.effectivity c.in-Generator.per_tick c.in-Generator.max_temperature c.in-Generator.burns c.in-Generator.output c.in-Generator.is c.requires.gives
