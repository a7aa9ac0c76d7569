use Rattle.std.proofs.Common.{◌≡◌, drop}
use Rattle.game_types.specs.Steps.{sum_of}
use Rattle.game_types.specs.Beacons.{bonus_sum, group_bonus}
use Rattle.beacon_effects.proofs.sums.bonus_sum.Given as goal

abbrev pub invariant-loop-group : goal.invariant-loop-group
invariant-loop-group l = bonus_sum l.game l.kind l.groups ≡ sum_of 2 (group_bonus l.game l.kind) l.sum (drop l.group-index l.groups)
