use Rattle.std.proofs.Common.{◌≡◌, ◌++◌, ◌-◌}
use Rattle.catalog_things.specs.Choices.{does_in, passing}
use Rattle.catalog_things.proofs.doers.machines_for.Given as goal

abbrev pub invariant-loop-machine : goal.invariant-loop-machine
invariant-loop-machine l = l.nodes.items ++ passing (does_in l.game l.activity) l.first l.machine (l.count - l.machine) ≡ passing (does_in l.game l.activity) l.first 0 l.count
