use Rattle.std.proofs.Common.{◌≡◌, ◌++◌, drop, map}
use Rattle.fluid_variants.specs.Records.{variant_name}
use Rattle.fluid_variants.proofs.records.put_each_name.Given as goal

abbrev pub invariant-loop-at : goal.invariant-loop-at
invariant-loop-at l = l.list.items ++ map (variant_name l.name) (drop l.at-index l.temperatures) ≡ l.initial.list.items ++ map (variant_name l.name) l.temperatures
