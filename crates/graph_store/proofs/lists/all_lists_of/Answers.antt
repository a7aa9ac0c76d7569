use Rattle.graph_store.proofs.Listing.{all_lists}
use Rattle.graph_store.proofs.lists.all_lists_of.Goals as goal

pub returns : goal.returns
returns g c = all_lists (g.K.Keys.about c.args.keys.now) c.args.first c.args.things.now c.in_ok-end.end c.in_ok-lists.lists.items c.in_ok-lists.ensures c.in_ok-end.ensures
