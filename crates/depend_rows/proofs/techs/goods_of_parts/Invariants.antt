use Rattle.std.proofs.Common.{[]}
use Rattle.graph_store.proofs.Walks.{Appended}
use Rattle.depend_rows.proofs.techs.goods_of_parts.Given as goal

abbrev pub invariant-loop-part : goal.invariant-loop-part
invariant-loop-part l = Appended (λ part. part.0.0) [] l.parts l.part-index l.goods.items
