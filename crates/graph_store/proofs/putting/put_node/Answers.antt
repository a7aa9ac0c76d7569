use Rattle.std.proofs.Common.{◌∙◌, List, ap, sym, subst}
use Rattle.plan_base.specs.declared.ids.NodeId.{NodeId}
use Rattle.graph_store.specs.Lists.{has_node, IsPlaceOf, Rise}
use Rattle.graph_store.proofs.PutLemmas.{put_keeps, put_rises}
use Rattle.graph_store.proofs.putting.put_node.Goals as goal

pub returns-in_ok-insert-clause-rise : goal.returns-in_ok-insert-clause-rise
returns-in_ok-insert-clause-rise c =
    subst Rise (sym c.in_ok-insert.ensures.items)
    (put_rises c.args.list.now.items c.place_of-place.result c.args.node c.requires
    (subst (λ (l : List NodeId). IsPlaceOf c.args.node.0 l c.place_of-place.result) c.as_slice.ensures.value c.place_of-place.ensures)
    (ap (λ l. has_node l c.args.node.0) (sym c.as_slice-2.ensures.value) ∙ sym c.is_there.ensures ∙ c.if-not-is_there.true))

pub returns-in_ok-insert-clause-kept : goal.returns-in_ok-insert-clause-kept
returns-in_ok-insert-clause-kept c = λ n there.
    ap (λ l. has_node l n) c.in_ok-insert.ensures.items
    ∙ put_keeps c.args.list.now.items c.place_of-place.result c.args.node n
    (subst (λ (l : List NodeId). IsPlaceOf c.args.node.0 l c.place_of-place.result) c.as_slice.ensures.value c.place_of-place.ensures).within there
