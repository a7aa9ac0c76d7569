use Rattle.std.proofs.Common.{◌≡◌, ◌++◌, drop, map}
use Rattle.std.specs.List.{flat_map}
use Rattle.rocket_launches.specs.Launches.{flight}
use Rattle.rocket_launches.proofs.silos.flights.Given as goal

abbrev pub invariant-loop-silo : goal.invariant-loop-silo
invariant-loop-silo l = l.flights.items ++ flat_map (λ silo. map (flight silo) l.cargo) (drop l.silo-index l.silos) ≡ flat_map (λ silo. map (flight silo) l.cargo) l.silos
