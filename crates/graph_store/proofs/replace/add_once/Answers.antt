-- A user that is there is there once or more, and one that isn't is added once.
use Rattle.std.proofs.Common.{arith, sym, ◌∙◌, ap}
use Rattle.std.specs.Prelude.{List}
use Rattle.plan_base.specs.declared.NodeId.{NodeId}
use Rattle.graph_store.specs.Rows.{has_node}
use Rattle.graph_store.specs.Replace.{count_of}
use Rattle.graph_store.proofs.ReplaceLemmas.{count-some, count-none, count-push_same}
use Rattle.graph_store.proofs.replace.add_once.Goals as goal

pub returns-in_ok-push-clause-once : goal.returns-in_ok-push-clause-once
returns-in_ok-push-clause-once c = λ _.
    omega (
      arith,
      ap (λ (us : List NodeId). count_of us c.args.user.0) c.in_ok-push.ensures.items,
      count-push_same c.args.users.now.items c.args.user,
      count-none
          c.args.users.now.items
          c.args.user.0
          (ap (λ (us : List NodeId). has_node us c.args.user.0) (sym c.deref.ensures.value)
          ∙ (sym c.has_node.ensures ∙ c.if-not-has_node.true)),
    )

pub returns-else-not-has_node-clause-there : goal.returns-else-not-has_node-clause-there
returns-else-not-has_node-clause-there c =
    count-some
    c.args.users.now.items
    c.args.user.0
    (ap (λ (us : List NodeId). has_node us c.args.user.0) (sym c.deref.ensures.value)
    ∙ (sym c.has_node.ensures ∙ c.if-not-has_node.false))
