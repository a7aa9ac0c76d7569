use Rattle.std.proofs.Common.{take}
use Rattle.reach_incremental.specs.Keys.{GivesLaneKeys}
use Rattle.reach_incremental.proofs.user_keys.give_keys.Given as goal

abbrev pub invariant-loop-user : goal.invariant-loop-user
invariant-loop-user l = GivesLaneKeys l.fn.by l.fn.floor l.fn.ranks l.fn.was l.fn.is (take l.user-index l.users) l.initial.heap l.heap
