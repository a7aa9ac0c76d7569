use Rattle.std.proofs.Common.{◌≡◌, drop}
use Rattle.game_types.specs.Beacons.{bonuses_fit}
use Rattle.beacon_effects.proofs.sums.bonuses_fit.Given as goal

abbrev pub invariant-loop-group : goal.invariant-loop-group
invariant-loop-group l = bonuses_fit l.game l.groups ≡ bonuses_fit l.game (drop l.group-index l.groups)
