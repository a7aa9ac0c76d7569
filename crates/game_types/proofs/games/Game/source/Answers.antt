use Rattle.game_types.specs.Lookups.{source_at, no_source}
use Rattle.game_types.proofs.Walks.{read_at}
use Rattle.game_types.proofs.games.Game.source.Goals as goal

pub returns : goal.returns
unfolding source_at
returns c = read_at c.as_slice.result.now c.args.self.now.sources c.args.source.0 c.index-as_slice-source.result no_source c.index-as_slice-source.is c.as_slice.ensures c.requires
