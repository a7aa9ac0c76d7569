use Rattle.std.proofs.Common.{◌≡◌, ◌++◌, drop}
use Rattle.fluid_variants.specs.Contents.{contents}
use Rattle.fluid_variants.specs.Records.{all_variant_names}
use Rattle.fluid_variants.proofs.naming.all_variant_names.Given as goal

abbrev pub invariant-loop-number : goal.invariant-loop-number
invariant-loop-number l = l.list.items ++ all_variant_names (drop l.number l.names) (drop l.number (contents l.lists)) ≡ all_variant_names l.names (contents l.lists)
