use Rattle.std.proofs.Common.{◌≡◌, take, map, not}
use Rattle.std.specs.List.{filter}
use Rattle.milestone_masks.specs.Worlds.{ranked}
use Rattle.milestone_masks.proofs.masks.mask_in.Given as goal

abbrev pub invariant-loop-k : goal.invariant-loop-k
invariant-loop-k l =
    l.nodes.items ≡ map (λ m. m.node) (filter (λ m. not (ranked m.ranks l.node.0)) (take l.k l.milestones.items))
