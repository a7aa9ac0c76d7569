use Rattle.std.proofs.Common.{◌≡◌, ℕ, true, false, take, get_or}
use Rattle.graph_store.specs.Rows.{has_node}
use Rattle.graph_store.specs.Users.{users_at}
use Rattle.graph_store.specs.Replace.{count_of, pair_of, is_unmarked, Drops}
use Rattle.graph_store.proofs.replace.drop_from_each.Given as goal

abbrev pub invariant-loop-m : goal.invariant-loop-m
invariant-loop-m l = record {
  drops : Drops (pair_of l.user.0 (is_unmarked l.marks (λ n. has_node l.members n))) l.initial.users l.users;
  gone : (n : ℕ) → has_node (take l.m-index l.members) n ≡ true → get_or l.marks n false ≡ false → count_of (users_at l.users n) l.user.0 ≡ 0;
}
