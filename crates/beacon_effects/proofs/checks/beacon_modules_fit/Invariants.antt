use Rattle.std.proofs.Common.{◌≡◌, drop}
use Rattle.game_types.specs.Beacons.{beacon_modules_fit}
use Rattle.beacon_effects.proofs.checks.beacon_modules_fit.Given as goal

abbrev pub invariant-loop-good : goal.invariant-loop-good
invariant-loop-good l = beacon_modules_fit l.game l.beacon l.machine l.activity l.modules ≡ beacon_modules_fit l.game l.beacon l.machine l.activity (drop l.good-index l.modules)
