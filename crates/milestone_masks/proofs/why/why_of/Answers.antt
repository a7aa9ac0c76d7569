-- What was found, in order.
use Rattle.std.proofs.Common.{subst, ap, arith, List, length}
use Rattle.std.proofs.lemmas.Result.{IfOk-weaker}
use Rattle.plan_base.specs.declared.NodeId.{NodeId}
use Rattle.milestone_masks.specs.Found.{IsInOrder}
use Rattle.milestone_masks.proofs.OrderLemmas.{why-from_found}
use Rattle.milestone_masks.proofs.why.why_of.Goals as goal

pub returns-clause-why : goal.returns-clause-why
returns-clause-why g c =
    IfOk-weaker
    c.in_order.result
    _
    _
    (λ nodes sorted.
    why-from_found
    (g.R.Rows.rows c.args.rows.now)
    c.args.granted.now
    c.args.ranks.now
    c.args.node.0
    c.in_ok-found.found.items
    nodes.items
    c.in_ok-found.ensures.found
    (subst (λ (found : List NodeId). IsInOrder c.args.ranks.now found nodes.items) c.deref.ensures.value sorted))
    c.in_order.ensures

pub returns-clause-steps : goal.returns-clause-steps
returns-clause-steps g c =
    IfOk-weaker
    c.in_order.result
    _
    _
    (λ nodes sorted. omega (arith, sorted.as_long, ap (λ (found : List NodeId). length found) c.deref.ensures.value, c.in_ok-found.ensures.steps))
    c.in_order.ensures
