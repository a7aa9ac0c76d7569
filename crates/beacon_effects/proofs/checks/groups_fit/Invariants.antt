use Rattle.std.proofs.Common.{◌≡◌, drop}
use Rattle.game_types.specs.Steps.{first_fault}
use Rattle.game_types.specs.Beacons.{group_fits}
use Rattle.beacon_effects.proofs.checks.groups_fit.Given as goal

abbrev pub invariant-loop-group : goal.invariant-loop-group
invariant-loop-group l = first_fault (group_fits l.game l.setup) l.groups ≡ first_fault (group_fits l.game l.setup) (drop l.group-index l.groups)
