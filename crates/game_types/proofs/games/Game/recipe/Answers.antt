use Rattle.game_types.specs.Lookups.{recipe_at, no_recipe}
use Rattle.game_types.proofs.Walks.{read_at}
use Rattle.game_types.proofs.games.Game.recipe.Goals as goal

pub returns : goal.returns
unfolding recipe_at
returns c = read_at c.as_slice.result.now c.args.self.now.recipes c.args.recipe.0 c.index-as_slice-recipe.result no_recipe c.index-as_slice-recipe.is c.as_slice.ensures c.requires
