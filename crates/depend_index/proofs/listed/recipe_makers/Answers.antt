use Rattle.game_types.specs.Making.{gives}
use Rattle.game_types.specs.declared.recipes.Recipe.{Recipe}
use Rattle.depend_index.specs.Goods.{first_recipe, good_count}
use Rattle.graph_store.proofs.AmongLemmas.{hold_all}
use Rattle.depend_index.proofs.listed.recipe_makers.Goals as goal

pub returns : goal.returns
returns c = hold_all (λ (recipe : Recipe) good. gives recipe.products good) (first_recipe c.args.game.now) c.args.game.now.recipes (good_count c.args.game.now) c.in_ok-lists.lists.items c.in_ok-lists.ensures
