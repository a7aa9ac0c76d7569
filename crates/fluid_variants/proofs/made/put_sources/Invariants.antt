use Rattle.std.proofs.Common.{◌≡◌, ◌++◌, drop}
use Rattle.std.specs.List.{filter_map, flat_map}
use Rattle.fluid_variants.specs.Temperatures.{product_made}
use Rattle.fluid_variants.proofs.made.put_sources.Given as goal

abbrev pub invariant-loop-source : goal.invariant-loop-source
invariant-loop-source l = l.list.items ++ flat_map (λ source. filter_map (product_made l.game) source.products) (drop l.source-index l.game.sources) ≡ l.initial.list.items ++ flat_map (λ source. filter_map (product_made l.game) source.products) l.game.sources
