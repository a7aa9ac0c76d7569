use Rattle.std.proofs.Common.{◌≡◌, true}
use Rattle.graph_store.specs.Lists.{is_among}
use Rattle.graph_store.proofs.common.shortest.Given as goal

abbrev pub invariant-loop-number : goal.invariant-loop-number
invariant-loop-number l = is_among l.numbers l.best ≡ true
