use Rattle.std.proofs.Common.{◌∙◌, ◌≡◌, ap, arith, subst, sym, ◌+◌, List, Vec, get_or}
use Rattle.std.specs.Global.{Global}
use Rattle.plan_base.specs.declared.ids.NodeId.{NodeId}
use Rattle.graph_store.specs.Lists.{contents}
use Rattle.graph_store.proofs.Listing.{pushed_more, pushed_past, PushedSoFar}
use Rattle.graph_store.proofs.Walks.{at_self}
use Rattle.graph_store.proofs.lists.push_to_each.Goals.{then-place-lists+in_ok-push_at, else-place-lists}
use Rattle.graph_store.proofs.lists.push_to_each.Goals as goal

pub loop-number-preserved : goal.loop-number-preserved
loop-number-preserved c =
    let numbers = c.args.numbers.now in
    let i = c.loop-number.number-index in
    let x = get_or numbers i 0 in
    let is : x ≡ get_or numbers i x = at_self numbers i 0 c.loop-number-test.true in
    elim c.if-place-lists.branch [
      | then-place-lists+in_ok-push_at w ↦ pushed_more numbers c.args.node c.args.lists.now i x c.loop-number.lists c.if-place-lists.lists c.requires c.loop-number-test.true is w.if-place-lists.true (omega (arith, c.if-place-lists.auto.lists)) (ap contents w.lists-is ∙ w.in_ok-push_at.ensures) c.loop-number.invariant
      | else-place-lists w ↦ subst (λ (l : List (Vec NodeId Global)). PushedSoFar numbers c.args.node c.args.lists.now (i + 1) l) (sym w.lists-is) (pushed_past numbers c.args.node c.args.lists.now i x c.loop-number.lists c.loop-number-test.true is w.if-place-lists.false c.loop-number.invariant)
    ]
