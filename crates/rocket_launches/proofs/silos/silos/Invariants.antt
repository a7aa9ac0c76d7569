use Rattle.std.proofs.Common.{◌≡◌, ◌++◌, drop}
use Rattle.rocket_launches.specs.Launches.{found_from, silo_of}
use Rattle.rocket_launches.proofs.silos.silos.Given as goal

abbrev pub invariant-loop-machine : goal.invariant-loop-machine
invariant-loop-machine l = record {
  found : l.silos.items ++ found_from (silo_of l.game) l.number (drop l.machine-index l.game.machines) ≡ found_from (silo_of l.game) 0 l.game.machines;
  number : l.number ≡ l.machine-index;
}
