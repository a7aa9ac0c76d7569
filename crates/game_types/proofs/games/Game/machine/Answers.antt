use Rattle.game_types.specs.Lookups.{machine_at, no_machine}
use Rattle.game_types.proofs.Walks.{read_at}
use Rattle.game_types.proofs.games.Game.machine.Goals as goal

pub returns-clause-value : goal.returns-clause-value
unfolding machine_at
returns-clause-value c = read_at c.as_slice.result.now c.args.self.now.machines c.args.machine.0 c.index-as_slice-machine.result no_machine c.index-as_slice-machine.is c.as_slice.ensures c.requires.within
