use Rattle.std.proofs.Common.{◌≡◌}
use Rattle.rocket_launches.specs.Clashes.{flight_cut, least_below}
use Rattle.rocket_launches.proofs.flight_names.flight_in.Given as goal

abbrev pub invariant-loop-place : goal.invariant-loop-place
invariant-loop-place l = l.least ≡ least_below (flight_cut l.game l.text) l.place
