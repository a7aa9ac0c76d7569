use Rattle.std.proofs.Common.{[]}
use Rattle.graph_store.proofs.Walks.{Appended}
use Rattle.depend_rows.proofs.techs.numbers_of_techs.Given as goal

abbrev pub invariant-loop-tech : goal.invariant-loop-tech
invariant-loop-tech l = Appended (λ t. t.0) [] l.techs l.tech-index l.numbers.items
