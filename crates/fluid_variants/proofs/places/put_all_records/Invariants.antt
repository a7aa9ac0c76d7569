use Rattle.std.proofs.Common.{◌≡◌, ◌++◌, drop}
use Rattle.fluid_variants.specs.Contents.{contents}
use Rattle.fluid_variants.specs.Records.{all_records, record_place}
use Rattle.fluid_variants.proofs.places.put_all_records.Given as goal

abbrev pub invariant-loop-number : goal.invariant-loop-number
invariant-loop-number l =
    l.records.items ++ all_records (record_place l.items (contents l.lists) l.number) (drop l.number l.fluids) (drop l.number (contents l.lists))
    ≡ l.initial.records.items ++ all_records l.items l.fluids (contents l.lists)
