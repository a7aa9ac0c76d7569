use Rattle.std.proofs.Common.{arith}
use Rattle.std.specs.Prelude.{◌==◌}
use Rattle.graph_store.proofs.Listing.{none_last}
use Rattle.graph_store.proofs.lists.end_of.Goals as goal

pub returns : goal.returns
returns c = none_last (λ j k. j == k) c.args.numbers.now c.loop-number.number-index c.loop-number.end (omega (arith, c.loop-number-test.false)) c.loop-number.invariant
