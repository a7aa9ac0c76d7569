-- The list of one member more has the user.
use Rattle.std.proofs.Common.{arith}
use Rattle.graph_store.proofs.ReplaceLemmas.{adds-member, there-member}
use Rattle.graph_store.proofs.replace.add_to_each.Goals as goal

pub loop-m-preserved : goal.loop-m-preserved
loop-m-preserved c = record {
  adds = adds-member
      c.args.members.now
      c.loop-m.m-index
      c.args.user.0
      c.args.users.now
      c.loop-m.users
      (record { 0 = 0 })
      c.index-users-m.result
      c.add_once.new.users
      c.loop-m-test.true
      (omega (arith, c.requires c.loop-m.m-index (record { 0 = 0 }) c.loop-m-test.true, c.loop-m.auto.users))
      c.loop-m.invariant.adds
      c.add_once.ensures.others
      c.add_once.ensures.kept
      c.add_once.ensures.once;
  there = there-member
      c.args.members.now
      c.loop-m.m-index
      c.args.user.0
      c.loop-m.users
      (record { 0 = 0 })
      c.add_once.new.users
      c.loop-m-test.true
      (omega (arith, c.requires c.loop-m.m-index (record { 0 = 0 }) c.loop-m-test.true, c.loop-m.auto.users))
      c.in_ok-add_once.ensures.there
      c.loop-m.invariant.there;
}

pub returns-in_err-add_once-clause-adds : goal.returns-in_err-add_once-clause-adds
returns-in_err-add_once-clause-adds c =
    adds-member
    c.args.members.now
    c.loop-m.m-index
    c.args.user.0
    c.args.users.now
    c.loop-m.users
    (record { 0 = 0 })
    c.index-users-m.result
    c.add_once.new.users
    c.loop-m-test.true
    (omega (arith, c.requires c.loop-m.m-index (record { 0 = 0 }) c.loop-m-test.true, c.loop-m.auto.users))
    c.loop-m.invariant.adds
    c.add_once.ensures.others
    c.add_once.ensures.kept
    c.add_once.ensures.once
