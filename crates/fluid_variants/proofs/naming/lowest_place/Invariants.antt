use Rattle.std.proofs.Common.{◌≡◌, drop}
use Rattle.fluid_variants.specs.Naming.{lower_of, lowest_place}
use Rattle.fluid_variants.proofs.naming.lowest_place.Given as goal

abbrev pub invariant-loop-name : goal.invariant-loop-name
invariant-loop-name l = lower_of l.lowest (lowest_place l.names (drop l.name-index l.others)) ≡ lowest_place l.names l.others
