use Rattle.std.proofs.Common.{take}
use Rattle.milestone_masks.specs.Found.{IsLeastTurn}
use Rattle.milestone_masks.specs.Numbers.{nodes_at}
use Rattle.milestone_masks.proofs.supports.least_turn.Given as goal

abbrev pub invariant-loop-m : goal.invariant-loop-m
invariant-loop-m l = IsLeastTurn l.least l.ranks (nodes_at (take l.m-index l.members))
