use Rattle.std.proofs.Common.{◌≡◌, ◌++◌, length, map}
use Rattle.std.specs.Vec.Iter.{into_iter_items, into_iter_len}
use Rattle.fluid_variants.specs.Records.{new_machine}
use Rattle.fluid_variants.proofs.rewriting.new_machines.Given as goal

abbrev pub invariant-loop-machine : goal.invariant-loop-machine
invariant-loop-machine g l = record {
  rest : l.new.items ++ map (new_machine l.game (record { taken = g.R.Renumber.taken_as l.by; given = g.R.Renumber.given_as l.by })) (into_iter_items l.machine-iterator)
      ≡ map (new_machine l.game (record { taken = g.R.Renumber.taken_as l.by; given = g.R.Renumber.given_as l.by })) l.fn.machines.items;
  counted : into_iter_len l.machine-iterator ≡ length (into_iter_items l.machine-iterator);
}
