use Rattle.std.proofs.Common.{◌≡◌, ℕ, ◌<◌, true, take}
use Rattle.std.specs.List.{list_any}
use Rattle.graph_store.specs.Rows.{has_node, has_member}
use Rattle.graph_store.specs.Users.{users_at}
use Rattle.graph_store.specs.Replace.{count_of, pair_of, Adds}
use Rattle.graph_store.proofs.replace.add_to_row.Given as goal

abbrev pub invariant-loop-group : goal.invariant-loop-group
invariant-loop-group l = record {
  adds : Adds (pair_of l.user.0 (λ n. has_member l.row n)) l.initial.users l.users;
  there : (n : ℕ) → list_any (λ group. has_node group.members n) (take l.group-index l.group-items) ≡ true → 0 < count_of (users_at l.users n) l.user.0;
}
