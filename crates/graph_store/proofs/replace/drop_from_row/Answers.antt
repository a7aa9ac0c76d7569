-- The lists of one group more.
use Rattle.graph_store.proofs.DropLemmas.{drops-group, gone-group}
use Rattle.graph_store.proofs.replace.drop_from_row.Goals as goal

pub loop-group-preserved : goal.loop-group-preserved
loop-group-preserved c = record {
  drops = drops-group
      c.args.row.now
      c.as_slice-group-items.result.now
      c.loop-group.group-index
      c.args.user.0
      c.args.marks.now
      c.group-item.result
      c.as_slice.result.now
      c.args.users.now
      c.loop-group.users
      c.drop_from_each.new.users
      c.as_slice-group-items.ensures
      c.loop-group-test.true
      c.group-item.is
      c.as_slice.ensures
      c.loop-group.invariant.drops
      c.drop_from_each.ensures.drops;
  gone = gone-group
      c.as_slice-group-items.result.now
      c.loop-group.group-index
      c.args.user.0
      c.args.marks.now
      c.group-item.result
      c.as_slice.result.now
      c.loop-group.users
      c.drop_from_each.new.users
      c.loop-group-test.true
      c.group-item.is
      c.as_slice.ensures
      c.drop_from_each.ensures.drops.fewer
      c.loop-group.invariant.gone
      c.drop_from_each.ensures.gone;
}
