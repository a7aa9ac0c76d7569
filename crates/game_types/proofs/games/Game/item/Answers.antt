use Rattle.game_types.specs.Lookups.{item_at, no_item}
use Rattle.game_types.proofs.Walks.{read_at}
use Rattle.game_types.proofs.games.Game.item.Goals as goal

pub returns : goal.returns
unfolding item_at
returns c = read_at c.as_slice.result.now c.args.self.now.items c.args.good.0 c.index-as_slice-good.result no_item c.index-as_slice-good.is c.as_slice.ensures c.requires
