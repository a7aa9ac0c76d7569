use Rattle.std.proofs.Common.{◌≡◌, ◌++◌, drop, map}
use Rattle.rocket_launches.specs.Launches.{launch_name}
use Rattle.rocket_launches.proofs.launches.launch_names.Given as goal

abbrev pub invariant-loop-flight : goal.invariant-loop-flight
invariant-loop-flight l = l.names.items ++ map (launch_name l.game) (drop l.flight-index l.flights) ≡ map (launch_name l.game) l.flights
