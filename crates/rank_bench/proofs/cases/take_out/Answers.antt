use Rattle.std.proofs.Common.{Ok}
use Rattle.rank_bench.proofs.DropLemmas.{stays-dropped}
use Rattle.rank_bench.proofs.cases.take_out.Goals as goal

pub returns-in-Ok : goal.returns-in-Ok
returns-in-Ok c = record { worlds = stays-dropped c.args.worlds.now c.drop_world.new.self (Ok c.in-Ok.place) c.in-Ok.ensures.base c.in-Ok.ensures.dropped tt }
