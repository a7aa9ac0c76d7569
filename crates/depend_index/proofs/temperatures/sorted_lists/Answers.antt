use Rattle.std.proofs.Common.{List, subst}
use Rattle.plan_base.specs.declared.ids.NodeId.{NodeId}
use Rattle.depend_index.specs.Coolest.{IsCoolestFirst}
use Rattle.depend_index.proofs.CoolestLemmas.{sorted_more}
use Rattle.graph_store.proofs.Listing.{list_is}
use Rattle.depend_index.proofs.temperatures.sorted_lists.Goals as goal

pub loop-list-preserved : goal.loop-list-preserved
loop-list-preserved c =
    sorted_more c.args.fluids.now c.args.first c.args.lists.now c.loop-list.list-index c.list-item.result c.in_ok-sorted.sorted c.loop-list.all.items c.push.new.self.items
    (list_is c.args.lists.now c.loop-list.list-index c.list-item.result c.loop-list-test.true c.list-item.is)
    (subst (λ (l : List NodeId). IsCoolestFirst c.args.fluids.now c.args.first l c.in_ok-sorted.sorted.items) c.as_slice.ensures.value c.in_ok-sorted.ensures)
    c.in_ok-push.ensures.items c.loop-list.invariant
