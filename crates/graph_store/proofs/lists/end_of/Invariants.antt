use Rattle.std.specs.Prelude.{◌==◌}
use Rattle.graph_store.proofs.Listing.{NoneSoFar}
use Rattle.graph_store.proofs.lists.end_of.Given as goal

abbrev pub invariant-loop-number : goal.invariant-loop-number
invariant-loop-number l = NoneSoFar (λ j k. j == k) l.numbers l.number-index l.end
