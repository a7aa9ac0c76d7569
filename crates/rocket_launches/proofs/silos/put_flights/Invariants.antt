use Rattle.std.proofs.Common.{◌≡◌, ◌++◌, drop, map}
use Rattle.rocket_launches.specs.Launches.{flight}
use Rattle.rocket_launches.proofs.silos.put_flights.Given as goal

abbrev pub invariant-loop-good : goal.invariant-loop-good
invariant-loop-good l = l.list.items ++ map (flight l.silo) (drop l.good-index l.cargo) ≡ l.initial.list.items ++ map (flight l.silo) l.cargo
