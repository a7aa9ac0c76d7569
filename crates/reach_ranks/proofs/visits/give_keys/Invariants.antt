use Rattle.std.proofs.Common.{take}
use Rattle.reach_ranks.specs.Given.{GivesKeys}
use Rattle.reach_ranks.proofs.visits.give_keys.Given as goal

abbrev pub invariant-loop-user : goal.invariant-loop-user
invariant-loop-user l = GivesKeys l.fn.comes l.fn.k l.fn.floor l.fn.ranks (take l.user-index l.users) l.initial.heap l.heap
