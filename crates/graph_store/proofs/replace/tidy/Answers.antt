-- The lists of one change less may have more than the users.
use Rattle.std.proofs.Common.{◌≤◌, length, ap}
use Rattle.std.specs.Prelude.{List}
use Rattle.std.proofs.Math.ListN.{drop_of_length-le}
use Rattle.graph_store.specs.Replace.{Change, is_changed_user}
use Rattle.std.proofs.Common.{drop}
use Rattle.graph_store.proofs.TidyLemmas.{may-less, users-from_may}
use Rattle.graph_store.proofs.replace.tidy.Goals as goal

pub loop-change-preserved : goal.loop-change-preserved
loop-change-preserved c = record {
  clear = c.tidy_change.ensures.clear;
  marks = c.tidy_change.ensures.marks;
  users = may-less
      c.args.rows.now
      c.args.changes.now
      c.loop-change.change-index
      c.change-item.result
      c.loop-change.users
      c.tidy_change.new.users
      c.loop-change-test.true
      c.change-item.is
      c.loop-change.invariant.users
      c.tidy_change.ensures.drops
      c.tidy_change.ensures.gone;
}

pub returns-clause-users : goal.returns-clause-users
returns-clause-users c =
    let past : length c.args.changes.now ≤ c.loop-change.change-index = c.loop-change-test.false in
    users-from_may
    c.args.rows.now
    c.loop-change.users
    (is_changed_user (drop c.loop-change.change-index c.args.changes.now))
    (λ u n. ap (λ (cs : List Change). is_changed_user cs u n) (drop_of_length-le c.args.changes.now past))
    c.loop-change.invariant.users
