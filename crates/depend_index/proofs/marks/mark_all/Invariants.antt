use Rattle.depend_index.proofs.MarkLemmas.{MarkedSoFar}
use Rattle.depend_index.proofs.marks.mark_all.Given as goal

abbrev pub invariant-loop-category : goal.invariant-loop-category
invariant-loop-category l = MarkedSoFar l.categories l.initial.marks l.category-index l.marks
