use Rattle.std.proofs.Common.{◌≡◌, ◌++◌, drop, map}
use Rattle.fluid_variants.specs.Records.{new_source}
use Rattle.fluid_variants.proofs.rewriting.new_sources.Given as goal

abbrev pub invariant-loop-source : goal.invariant-loop-source
invariant-loop-source g l =
    l.new.items ++ map (new_source l.game (record { taken = g.R.Renumber.taken_as l.by; given = g.R.Renumber.given_as l.by })) (drop l.source-index l.game.sources)
    ≡ map (new_source l.game (record { taken = g.R.Renumber.taken_as l.by; given = g.R.Renumber.given_as l.by })) l.game.sources
