-- What edits leave of a game: all but some parts of recipes and technologies, and of what recipes give and technologies
-- unlock all that the edits don't name.
use Rattle.std.specs.Prelude.{ℕ, ◌≡◌, ◌==◌, ◌&&◌, Bool, false, List, slice_get}
use Rattle.std.specs.List.{list_any}
use Rattle.game_types.specs.Making.{gives}
use Rattle.game_types.specs.declared.games.Game.{Game}
use Rattle.graph_store.specs.Members.{passes}
use Rattle.data_edit.specs.Names.{KeepsGame}
use Rattle.data_edit.specs.declared.edits.Edit.{Edit}
use Rattle.data_edit.specs.declared.edits.Edit.TheVariants.{SetIngredient, DropIngredient, SetProduct, DropProduct, SetUnlock, SetTime, SetEnabled, Forbid, Permit, Grant, Revoke}

-- whether an edit is one of this good among the products of this recipe, both by their numbers
abbrev pub is_of_product : ℕ → ℕ → Edit → Bool
is_of_product r x (SetProduct recipe good amount) = (recipe.0 == r) && (good.0 == x)
is_of_product r x (DropProduct recipe good) = (recipe.0 == r) && (good.0 == x)
is_of_product r x (SetIngredient recipe good amount) = false
is_of_product r x (DropIngredient recipe good) = false
is_of_product r x (SetUnlock tech recipe on) = false
is_of_product r x (SetTime recipe time) = false
is_of_product r x (SetEnabled recipe on) = false
is_of_product r x (Forbid mark) = false
is_of_product r x (Permit mark) = false
is_of_product r x (Grant mark) = false
is_of_product r x (Revoke mark) = false

-- whether an edit is one of this recipe among those that this technology unlocks
abbrev pub is_of_unlock : ℕ → ℕ → Edit → Bool
is_of_unlock t r (SetUnlock tech recipe on) = (tech.0 == t) && (recipe.0 == r)
is_of_unlock t r (SetProduct recipe good amount) = false
is_of_unlock t r (DropProduct recipe good) = false
is_of_unlock t r (SetIngredient recipe good amount) = false
is_of_unlock t r (DropIngredient recipe good) = false
is_of_unlock t r (SetTime recipe time) = false
is_of_unlock t r (SetEnabled recipe on) = false
is_of_unlock t r (Forbid mark) = false
is_of_unlock t r (Permit mark) = false
is_of_unlock t r (Grant mark) = false
is_of_unlock t r (Revoke mark) = false

-- All that no edit changes is the same. Each recipe gives the goods that it gave, but for those that these edits name of it, and
-- each technology unlocks the recipes that it unlocked, but for those that these edits name of it.
pub record AlikeBut (edits : List Edit) (old new : Game) : Type 0 where
  pub kept : KeepsGame old new
  pub products : (r x : ℕ) → list_any (is_of_product r x) edits ≡ false → passes (λ recipe. gives recipe.products x) (slice_get new.recipes r) ≡ passes (λ recipe. gives recipe.products x) (slice_get old.recipes r)
  pub unlocks : (t r : ℕ) → list_any (is_of_unlock t r) edits ≡ false → passes (λ tech. list_any (λ u. u.0 == r) tech.unlocks) (slice_get new.techs t) ≡ passes (λ tech. list_any (λ u. u.0 == r) tech.unlocks) (slice_get old.techs t)
