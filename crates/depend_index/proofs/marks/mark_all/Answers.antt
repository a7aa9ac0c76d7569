use Rattle.std.proofs.Common.{◌≡◌, ◌+◌, arith, Bool, List, get_or, subst, sym}
use Rattle.depend_index.proofs.MarkLemmas.{marked_more, marked_past, marked_last, MarkedSoFar}
use Rattle.graph_store.proofs.Walks.{at_self}
use Rattle.depend_index.proofs.marks.mark_all.Goals.{then-place-marks, else-place-marks}
use Rattle.depend_index.proofs.marks.mark_all.Goals as goal

pub loop-category-preserved : goal.loop-category-preserved
loop-category-preserved c =
    let categories = c.args.categories.now in
    let i = c.loop-category.category-index in
    let x = get_or categories i 0 in
    let is : x ≡ get_or categories i x = at_self categories i 0 c.loop-category-test.true in
    elim c.if-place-marks.branch [
      | then-place-marks w ↦ marked_more categories c.args.marks.now i x c.loop-category.marks c.if-place-marks.marks c.loop-category-test.true is w.if-place-marks.true w.marks-is c.loop-category.invariant
      | else-place-marks w ↦ subst (λ (l : List Bool). MarkedSoFar categories c.args.marks.now (i + 1) l) (sym w.marks-is) (marked_past categories c.args.marks.now i x c.loop-category.marks c.loop-category-test.true is w.if-place-marks.false c.loop-category.invariant)
    ]

pub returns : goal.returns
returns c = marked_last c.args.categories.now c.args.marks.now c.loop-category.category-index c.loop-category.marks (omega (arith, c.loop-category-test.false)) c.requires c.loop-category.invariant
