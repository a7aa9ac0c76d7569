-- One user more has its key.
use Rattle.reach_incremental.proofs.KeyLemmas.{marks_lanes-more}
use Rattle.reach_incremental.proofs.user_keys.give_keys.Goals as goal

pub loop-user-preserved : goal.loop-user-preserved
loop-user-preserved c =
    marks_lanes-more
    c.args.by
    c.args.floor.now
    c.args.ranks.now
    c.args.was.now
    c.args.is.now
    c.args.users.now
    c.loop-user.user-index
    (record { 0 = 0 })
    c.args.heap.now
    c.loop-user.heap
    c.give_key.new.heap
    c.loop-user-test.true
    (c.requires.users c.loop-user.user-index (record { 0 = 0 }) c.loop-user-test.true)
    c.loop-user.invariant
    c.give_key.ensures.put
    c.give_key.ensures.lower
    c.give_key.ensures.each
