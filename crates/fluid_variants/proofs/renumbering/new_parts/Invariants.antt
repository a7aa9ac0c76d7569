use Rattle.std.proofs.Common.{◌≡◌, ◌++◌, drop, map}
use Rattle.fluid_variants.specs.Records.{new_part}
use Rattle.fluid_variants.proofs.renumbering.new_parts.Given as goal

abbrev pub invariant-loop-part : goal.invariant-loop-part
invariant-loop-part g l =
    l.new.items ++ map (new_part (record { taken = g.R.Renumber.taken_as l.by; given = g.R.Renumber.given_as l.by })) (drop l.part-index l.parts)
    ≡ map (new_part (record { taken = g.R.Renumber.taken_as l.by; given = g.R.Renumber.given_as l.by })) l.parts
