-- One row more is in the lists of its members.
use Rattle.std.proofs.Common.{arith, ◌∙◌}
use Rattle.graph_store.specs.Users.{users_at}
use Rattle.graph_store.proofs.UsersLemmas.{lists-row, users-done}
use Rattle.graph_store.proofs.make.add_rows.Goals as goal

pub loop-i-preserved : goal.loop-i-preserved
loop-i-preserved c = record {
  as_long = c.in_ok-add_row.ensures.as_long ∙ c.loop-i.invariant.as_long;
  each = lists-row
      c.args.rows.now
      c.loop-i.i
      c.index-rows-i.result
      c.loop-i.users
      c.add_row.new.users
      (omega arith)
      c.index-rows-i.is
      c.loop-i.invariant.as_long
      c.in_ok-add_row.ensures
      c.loop-i.invariant.each;
}

pub returns : goal.returns
returns c = λ node inside.
    users-done c.args.rows.now node c.loop-i.i (users_at c.loop-i.users node) (omega arith) (c.loop-i.invariant.each node inside)
