use Rattle.std.proofs.Common.{◌≡◌, ℕ, true, false, take, get_or}
use Rattle.std.specs.List.{list_any}
use Rattle.graph_store.specs.Rows.{has_node, has_member}
use Rattle.graph_store.specs.Users.{users_at}
use Rattle.graph_store.specs.Replace.{count_of, pair_of, is_unmarked, Drops}
use Rattle.graph_store.proofs.replace.drop_from_row.Given as goal

abbrev pub invariant-loop-group : goal.invariant-loop-group
invariant-loop-group l = record {
  drops : Drops (pair_of l.user.0 (is_unmarked l.marks (λ n. has_member l.row n))) l.initial.users l.users;
  gone : (n : ℕ) → list_any (λ group. has_node group.members n) (take l.group-index l.group-items) ≡ true → get_or l.marks n false ≡ false → count_of (users_at l.users n) l.user.0 ≡ 0;
}
