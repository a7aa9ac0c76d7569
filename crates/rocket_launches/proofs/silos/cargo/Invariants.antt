use Rattle.std.proofs.Common.{◌≡◌, ◌++◌, drop}
use Rattle.rocket_launches.specs.Launches.{cargo_of, found_from}
use Rattle.rocket_launches.proofs.silos.cargo.Given as goal

abbrev pub invariant-loop-item : goal.invariant-loop-item
invariant-loop-item l = record {
  found : l.cargo.items ++ found_from cargo_of l.number (drop l.item-index l.game.items) ≡ found_from cargo_of 0 l.game.items;
  number : l.number ≡ l.item-index;
}
