use Rattle.game_reader.specs.Links.{linked_recipe}
use Rattle.game_reader.proofs.prototype_lists.named_recipe.Goals as goal

pub returns : goal.returns
returns c = c.in_prototype.ensures (linked_recipe c.args.names.now c.args.recipe) c.link_recipe.ensures
