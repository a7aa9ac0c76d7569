use Rattle.std.proofs.Common.{◌≡◌, drop}
use Rattle.fractions.specs.Fraction.{zero_fraction}
use Rattle.game_types.specs.Steps.{sum_of}
use Rattle.game_types.specs.Beacons.{group_power}
use Rattle.beacon_effects.proofs.power.power_sum.Given as goal

abbrev pub invariant-loop-group : goal.invariant-loop-group
invariant-loop-group l = sum_of 9 (group_power l.game) zero_fraction l.groups ≡ sum_of 9 (group_power l.game) l.sum (drop l.group-index l.groups)
