use Rattle.std.proofs.Common.{◌≡◌, ℕ, ◌<◌, length}
use Rattle.graph_store.specs.Users.{users_at}
use Rattle.graph_store.proofs.UsersLemmas.{AreUsersTo}
use Rattle.graph_store.proofs.make.add_rows.Given as goal

abbrev pub invariant-loop-i : goal.invariant-loop-i
invariant-loop-i l = record {
  as_long : length l.users ≡ length l.rows;
  each : (node : ℕ) → node < length l.rows → AreUsersTo l.rows node l.i (users_at l.users node);
}
