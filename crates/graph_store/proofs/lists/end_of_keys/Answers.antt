use Rattle.std.proofs.Common.{arith}
use Rattle.graph_store.proofs.Listing.{none_last}
use Rattle.graph_store.proofs.lists.end_of_keys.Goals as goal

pub returns : goal.returns
returns g c = none_last (g.K.Keys.about c.args.keys.now) c.args.things.now c.loop-thing.thing-index c.loop-thing.end (omega (arith, c.loop-thing-test.false)) c.loop-thing.invariant
