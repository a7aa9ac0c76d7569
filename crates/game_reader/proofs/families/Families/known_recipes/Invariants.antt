use Rattle.game_reader.specs.Links.{known_recipes}
use Rattle.std.proofs.Common.{◌≡◌, ◌++◌, drop}
use Rattle.game_reader.proofs.families.Families.known_recipes.Given as goal

abbrev pub invariant-loop-name : goal.invariant-loop-name
invariant-loop-name l = known_recipes l.self l.name-items ≡ l.recipes.items ++ known_recipes l.self (drop l.name-index l.name-items)
