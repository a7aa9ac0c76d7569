-- The lists of one change more have its node.
use Rattle.std.proofs.Common.{◌≡◌, ◌<◌, ℕ, List, Vec, true, subst}
use Rattle.std.specs.Global.{Global}
use Rattle.plan_base.specs.declared.NodeId.{NodeId}
use Rattle.graph_store.specs.declared.Row.{Row}
use Rattle.graph_store.specs.Rows.{has_member}
use Rattle.graph_store.specs.Users.{users_at}
use Rattle.graph_store.specs.Replace.{count_of, pair_of, Adds}
use Rattle.graph_store.proofs.ReplaceLemmas.{adds-change, there-change}
use Rattle.graph_store.proofs.replace.add_all.Goals as goal

-- the row that was read is that of the change
adds_row : (user : ℕ) (read row : Row) (old new : List (Vec NodeId Global)) → read ≡ row → Adds (pair_of user (λ n. has_member read n)) old new → Adds (pair_of user (λ n. has_member row n)) old new
adds_row user read row old new is adds = subst (λ (r : Row). Adds (pair_of user (λ n. has_member r n)) old new) is adds

there_row : (user : ℕ) (read row : Row) (new : List (Vec NodeId Global)) → read ≡ row → ((n : ℕ) → has_member read n ≡ true → 0 < count_of (users_at new n) user) → (n : ℕ) → has_member row n ≡ true → 0 < count_of (users_at new n) user
there_row user read row new is there = subst (λ (r : Row). (n : ℕ) → has_member r n ≡ true → 0 < count_of (users_at new n) user) is there

pub loop-change-preserved : goal.loop-change-preserved
loop-change-preserved c = record {
  adds = adds-change
      c.args.changes.now
      c.loop-change.change-index
      c.change-item.result
      c.args.users.now
      c.loop-change.users
      c.add_to_row.new.users
      c.loop-change-test.true
      c.change-item.is
      c.loop-change.invariant.adds
      (adds_row c.change-item.result.0.0 c.row.result.now c.change-item.result.1 c.loop-change.users c.add_to_row.new.users c.row.ensures c.add_to_row.ensures.adds);
  there = there-change
      c.args.changes.now
      c.loop-change.change-index
      c.change-item.result
      c.loop-change.users
      c.add_to_row.new.users
      c.loop-change-test.true
      c.change-item.is
      c.add_to_row.ensures.adds.kept
      c.loop-change.invariant.there
      (there_row c.change-item.result.0.0 c.row.result.now c.change-item.result.1 c.add_to_row.new.users c.row.ensures c.in_ok-add_to_row.ensures.there);
}

pub returns-in_err-add_to_row-clause-adds : goal.returns-in_err-add_to_row-clause-adds
returns-in_err-add_to_row-clause-adds c =
    adds-change
    c.args.changes.now
    c.loop-change.change-index
    c.change-item.result
    c.args.users.now
    c.loop-change.users
    c.add_to_row.new.users
    c.loop-change-test.true
    c.change-item.is
    c.loop-change.invariant.adds
    (adds_row c.change-item.result.0.0 c.row.result.now c.change-item.result.1 c.loop-change.users c.add_to_row.new.users c.row.ensures c.add_to_row.ensures.adds)
