use Rattle.std.proofs.Common.{◌≡◌, ◌++◌, drop, map}
use Rattle.fluid_variants.specs.Records.{variant}
use Rattle.fluid_variants.proofs.records.put_variants.Given as goal

abbrev pub invariant-loop-at : goal.invariant-loop-at
invariant-loop-at l = l.list.items ++ map (variant l.base l.fluid) (drop l.at-index l.temperatures) ≡ l.initial.list.items ++ map (variant l.base l.fluid) l.temperatures
