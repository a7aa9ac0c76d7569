use Rattle.std.proofs.Common.{take}
use Rattle.std.specs.List.{list_any}
use Rattle.graph_store.specs.Rows.{has_node}
use Rattle.graph_store.specs.Users.{AddsUser}
use Rattle.graph_store.proofs.make.add_row.Given as goal

abbrev pub invariant-loop-group : goal.invariant-loop-group
invariant-loop-group l =
    AddsUser (λ node. list_any (λ group. has_node group.members node) (take l.group-index l.group-items)) l.user.0 l.initial.users l.users
