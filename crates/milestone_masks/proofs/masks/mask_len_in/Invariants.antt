use Rattle.std.proofs.Common.{◌≡◌, ◌≤◌, length, take, map, not}
use Rattle.std.specs.List.{filter}
use Rattle.milestone_masks.specs.Worlds.{ranked}
use Rattle.milestone_masks.proofs.masks.mask_len_in.Given as goal

abbrev pub invariant-loop-k : goal.invariant-loop-k
invariant-loop-k l = record {
  counted : l.count ≡ length (map (λ m. m.node) (filter (λ m. not (ranked m.ranks l.node.0)) (take l.k l.milestones.items)));
  few : l.count ≤ l.k;
}
