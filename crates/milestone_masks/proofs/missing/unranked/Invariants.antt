use Rattle.std.proofs.Common.{◌≡◌, take, not}
use Rattle.std.specs.List.{filter}
use Rattle.milestone_masks.specs.Worlds.{ranked}
use Rattle.milestone_masks.proofs.missing.unranked.Given as goal

abbrev pub invariant-loop-m : goal.invariant-loop-m
invariant-loop-m l = l.nodes.items ≡ filter (λ m. not (ranked l.ranks m.0)) (take l.m-index l.members)
