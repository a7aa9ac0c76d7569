-- What no edit changes: which things there are, and their names.
use Rattle.std.specs.Prelude.{◌≡◌, length, map}
use Rattle.plan_base.specs.declared.shape.Kind.{Kind}
use Rattle.game_types.specs.Nodes.{names_of, shape_of}
use Rattle.game_types.specs.declared.games.Game.{Game}

-- as many things of each kind, with the same names
pub record KeepsNames (old new : Game) : Type 0 where
  pub shape : shape_of new ≡ shape_of old
  pub names : (kind : Kind) → names_of new kind ≡ names_of old kind

-- The same items, fluids, sources, machines and character, and as many recipes and technologies. Each recipe is of the category
-- that it was of.
pub record KeepsGame (old new : Game) : Type 0 where
  pub items : new.items ≡ old.items
  pub fluids : new.fluids ≡ old.fluids
  pub sources : new.sources ≡ old.sources
  pub machines : new.machines ≡ old.machines
  pub character : new.character ≡ old.character
  pub categories : new.categories ≡ old.categories
  pub recipes : map (λ recipe. recipe.category) new.recipes ≡ map (λ recipe. recipe.category) old.recipes
  pub techs : length new.techs ≡ length old.techs
