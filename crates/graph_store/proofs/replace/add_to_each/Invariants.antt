use Rattle.std.proofs.Common.{◌≡◌, ℕ, ◌<◌, true, take}
use Rattle.graph_store.specs.Rows.{has_node}
use Rattle.graph_store.specs.Users.{users_at}
use Rattle.graph_store.specs.Replace.{count_of, pair_of, Adds}
use Rattle.graph_store.proofs.replace.add_to_each.Given as goal

abbrev pub invariant-loop-m : goal.invariant-loop-m
invariant-loop-m l = record {
  adds : Adds (pair_of l.user.0 (λ n. has_node l.members n)) l.initial.users l.users;
  there : (n : ℕ) → has_node (take l.m-index l.members) n ≡ true → 0 < count_of (users_at l.users n) l.user.0;
}
