use Rattle.game_reader.specs.Links.{recipe_named}
use Rattle.game_reader.proofs.Loops.{each_onto}
use Rattle.prototype_fields.specs.Values.{each}
use Rattle.std.proofs.Common.{◌≡◌, drop}
use Rattle.game_reader.proofs.families.Families.each_recipe.Given as goal

abbrev pub invariant-loop-name : goal.invariant-loop-name
invariant-loop-name l = each (recipe_named l.self l.within l.key) l.name-items ≡ each_onto (recipe_named l.self l.within l.key) l.recipes.items (drop l.name-index l.name-items)
