-- The lists of one group more have the user.
use Rattle.graph_store.proofs.ReplaceLemmas.{adds-group, there-group}
use Rattle.graph_store.proofs.replace.add_to_row.Goals as goal

pub loop-group-preserved : goal.loop-group-preserved
loop-group-preserved c = record {
  adds = adds-group
      c.args.row.now
      c.as_slice-group-items.result.now
      c.loop-group.group-index
      c.args.user.0
      c.group-item.result
      c.as_slice.result.now
      c.args.users.now
      c.loop-group.users
      c.add_to_each.new.users
      c.as_slice-group-items.ensures
      c.loop-group-test.true
      c.group-item.is
      c.as_slice.ensures
      c.loop-group.invariant.adds
      c.add_to_each.ensures.adds;
  there = there-group
      c.as_slice-group-items.result.now
      c.loop-group.group-index
      c.args.user.0
      c.group-item.result
      c.as_slice.result.now
      c.loop-group.users
      c.add_to_each.new.users
      c.loop-group-test.true
      c.group-item.is
      c.as_slice.ensures
      c.add_to_each.ensures.adds.kept
      c.loop-group.invariant.there
      c.in_ok-add_to_each.ensures.there;
}

pub returns-in_err-add_to_each-clause-adds : goal.returns-in_err-add_to_each-clause-adds
returns-in_err-add_to_each-clause-adds c =
    adds-group
    c.args.row.now
    c.as_slice-group-items.result.now
    c.loop-group.group-index
    c.args.user.0
    c.group-item.result
    c.as_slice.result.now
    c.args.users.now
    c.loop-group.users
    c.add_to_each.new.users
    c.as_slice-group-items.ensures
    c.loop-group-test.true
    c.group-item.is
    c.as_slice.ensures
    c.loop-group.invariant.adds
    c.add_to_each.ensures.adds
