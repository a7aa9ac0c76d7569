use Rattle.std.proofs.Common.{◌≡◌, ℕ, ◌<◌, true, get_or}
use Rattle.graph_store.specs.Rows.{has_member}
use Rattle.graph_store.specs.Users.{users_at}
use Rattle.graph_store.specs.Replace.{Change, count_of, is_changed_user, Adds}
use Rattle.graph_store.proofs.replace.add_all.Given as goal

abbrev pub invariant-loop-change : goal.invariant-loop-change
invariant-loop-change l = record {
  adds : Adds (is_changed_user l.changes) l.initial.users l.users;
  there : (k : ℕ) (d : Change) → k < l.change-index → (n : ℕ) → has_member (get_or l.changes k d).1 n ≡ true → 0 < count_of (users_at l.users n) (get_or l.changes k d).0.0;
}
