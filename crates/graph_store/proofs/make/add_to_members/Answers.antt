-- The list of one member more has the user at its end.
use Rattle.std.proofs.Common.{arith}
use Rattle.graph_store.proofs.UsersLemmas.{adds-member}
use Rattle.graph_store.proofs.make.add_to_members.Goals as goal

pub loop-m-preserved : goal.loop-m-preserved
loop-m-preserved c =
    let inside = c.loop-m-test.true in
    adds-member
    c.args.members.now
    c.loop-m.m-index
    c.args.user.0
    (record { 0 = 0 })
    c.args.users.now
    c.loop-m.users
    c.index-users-m.result
    c.add_user.new.users
    inside
    (omega (arith, c.requires c.loop-m.m-index (record { 0 = 0 }) inside, c.loop-m.auto.users))
    c.loop-m.invariant
    c.in_ok-add_user.ensures
