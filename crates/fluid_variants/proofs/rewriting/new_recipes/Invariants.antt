use Rattle.std.proofs.Common.{◌≡◌, ◌++◌, drop, map}
use Rattle.fluid_variants.specs.Records.{new_recipe}
use Rattle.fluid_variants.proofs.rewriting.new_recipes.Given as goal

abbrev pub invariant-loop-recipe : goal.invariant-loop-recipe
invariant-loop-recipe g l =
    l.new.items ++ map (new_recipe l.game (record { taken = g.R.Renumber.taken_as l.by; given = g.R.Renumber.given_as l.by })) (drop l.recipe-index l.game.recipes)
    ≡ map (new_recipe l.game (record { taken = g.R.Renumber.taken_as l.by; given = g.R.Renumber.given_as l.by })) l.game.recipes
