use Rattle.std.proofs.Common.{◌∙◌, ap, sym, subst, Some}
use Rattle.graph_store.proofs.Walks.{there_at}
use Rattle.game_types.specs.Lookups.{recipe_at, no_recipe}
use Rattle.game_types.specs.Sound.{IsSoundRecipe}
use Rattle.depend_rows.proofs.rows.recipe_at.Goals as goal

pub returns-clause-sound : goal.returns-clause-sound
unfolding recipe_at
returns-clause-sound c = subst (IsSoundRecipe c.args.game.now) (sym c.recipe.ensures) (c.requires.sound.recipes c.args.number no_recipe c.requires.within)

pub returns-clause-there : goal.returns-clause-there
unfolding recipe_at
returns-clause-there c = there_at c.args.game.now.recipes c.args.number no_recipe c.requires.within ∙ ap Some (sym c.recipe.ensures)
