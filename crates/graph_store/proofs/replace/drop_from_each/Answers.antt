-- The list of one member more.
use Rattle.std.proofs.Common.{arith}
use Rattle.graph_store.proofs.DropLemmas.{drops-member, gone-member}
use Rattle.graph_store.proofs.replace.drop_from_each.Goals as goal

pub loop-m-preserved : goal.loop-m-preserved
loop-m-preserved c = record {
  drops = drops-member
      c.args.members.now
      c.loop-m.m-index
      c.args.user.0
      c.args.marks.now
      c.args.users.now
      c.loop-m.users
      (record { 0 = 0 })
      c.index-users-m.result
      c.drop_unless.new.users
      c.loop-m-test.true
      (omega (arith, c.requires.members c.loop-m.m-index (record { 0 = 0 }) c.loop-m-test.true, c.loop-m.auto.users))
      c.loop-m.invariant.drops
      c.drop_unless.ensures.others
      c.drop_unless.ensures.kept
      c.drop_unless.ensures.gone;
  gone = gone-member
      c.args.members.now
      c.loop-m.m-index
      c.args.user.0
      c.args.marks.now
      c.loop-m.users
      (record { 0 = 0 })
      c.drop_unless.new.users
      c.loop-m-test.true
      (omega (arith, c.requires.members c.loop-m.m-index (record { 0 = 0 }) c.loop-m-test.true, c.loop-m.auto.users))
      c.drop_unless.ensures.gone
      c.loop-m.invariant.gone;
}
