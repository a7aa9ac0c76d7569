-- The lists of one group more have the user at their end.
use Rattle.std.proofs.Common.{subst}
use Rattle.std.specs.Prelude.{List}
use Rattle.plan_base.specs.declared.NodeId.{NodeId}
use Rattle.graph_store.specs.Rows.{has_node}
use Rattle.graph_store.specs.Users.{AddsUser}
use Rattle.graph_store.proofs.UsersLemmas.{adds-group}
use Rattle.graph_store.proofs.make.add_row.Goals as goal

pub loop-group-preserved : goal.loop-group-preserved
loop-group-preserved c =
    adds-group
    c.as_slice-group-items.result.now
    c.loop-group.group-index
    c.args.user.0
    c.group-item.result
    c.args.users.now
    c.loop-group.users
    c.add_to_members.new.users
    c.loop-group-test.true
    c.loop-group.invariant
    c.group-item.is
    (subst
    (λ (members : List NodeId). AddsUser (λ n. has_node members n) c.args.user.0 c.loop-group.users c.add_to_members.new.users)
    c.as_slice.ensures
    c.in_ok-add_to_members.ensures)
