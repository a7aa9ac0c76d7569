use Rattle.std.proofs.Common.{◌≡◌, ℕ, length}
use Rattle.graph_store.specs.Users.{users_at}
use Rattle.graph_store.proofs.make.no_users.Given as goal

abbrev pub invariant-loop : goal.invariant-loop
invariant-loop l = record {
  as_long : length l.users.items ≡ l.counter;
  empty : (node : ℕ) → length (users_at l.users.items node) ≡ 0;
}
