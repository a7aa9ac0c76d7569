use Rattle.std.proofs.Common.{◌≡◌, ◌∙◌, List, Vec, OnOk, ap, sym, subst, true}
use Rattle.std.specs.Global.{Global}
use Rattle.plan_base.specs.declared.ids.NodeId.{NodeId}
use Rattle.graph_store.specs.Lists.{has_node}
use Rattle.graph_store.proofs.PutLemmas.{list_put, widen_put}
use Rattle.graph_store.proofs.putting.put_node_at.Goals as goal

pub returns-clause-widen : goal.returns-clause-widen
returns-clause-widen c =
    widen_put c.args.lists.now c.args.number c.index-lists-number.result c.put_node.new.list c.requires.number c.index-lists-number.is c.put_node.ensures.rise
    (λ k there. c.put_node.ensures.kept k (ap (λ (l : Vec NodeId Global). has_node l.items k) (sym c.index-lists-number.is) ∙ there))

pub returns-clause-put : goal.returns-clause-put
returns-clause-put c =
    subst (λ (l : List NodeId). OnOk c.put_node.result (has_node l c.args.node.0 ≡ true)) (sym (list_put c.args.lists.now c.args.number c.put_node.new.list c.requires.number)) c.put_node.ensures.put
