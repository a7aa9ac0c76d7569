use Rattle.std.proofs.Common.{[]}
use Rattle.graph_store.proofs.Walks.{Appended}
use Rattle.depend_index.proofs.machine_keys.numbers_of_goods.Given as goal

abbrev pub invariant-loop-good : goal.invariant-loop-good
invariant-loop-good l = Appended (λ r. r.0) [] l.goods l.good-index l.numbers.items
