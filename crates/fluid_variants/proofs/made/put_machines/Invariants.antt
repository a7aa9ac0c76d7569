use Rattle.std.proofs.Common.{◌≡◌, ◌++◌, drop}
use Rattle.std.specs.List.{filter_map}
use Rattle.fluid_variants.specs.Temperatures.{machine_made}
use Rattle.fluid_variants.proofs.made.put_machines.Given as goal

abbrev pub invariant-loop-machine : goal.invariant-loop-machine
invariant-loop-machine l = l.list.items ++ filter_map (λ machine. machine_made l.game machine.kind) (drop l.machine-index l.game.machines) ≡ l.initial.list.items ++ filter_map (λ machine. machine_made l.game machine.kind) l.game.machines
