use Rattle.std.proofs.Common.{take}
use Rattle.graph_store.specs.Rows.{has_node}
use Rattle.graph_store.specs.Users.{AddsUser}
use Rattle.graph_store.proofs.make.add_to_members.Given as goal

abbrev pub invariant-loop-m : goal.invariant-loop-m
invariant-loop-m l = AddsUser (λ node. has_node (take l.m-index l.members) node) l.user.0 l.initial.users l.users
