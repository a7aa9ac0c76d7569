use Rattle.std.proofs.Common.{◌≡◌, ◌++◌, drop}
use Rattle.std.specs.List.{filter_map, flat_map}
use Rattle.fluid_variants.specs.Temperatures.{product_made}
use Rattle.fluid_variants.proofs.made.put_recipes.Given as goal

abbrev pub invariant-loop-recipe : goal.invariant-loop-recipe
invariant-loop-recipe l = l.list.items ++ flat_map (λ recipe. filter_map (product_made l.game) recipe.products) (drop l.recipe-index l.game.recipes) ≡ l.initial.list.items ++ flat_map (λ recipe. filter_map (product_made l.game) recipe.products) l.game.recipes
