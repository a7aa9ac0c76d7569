-- Which nodes an edit touches.
use Rattle.std.specs.Prelude.{ℕ, ◌≡◌, ◌+◌, List, [], ◌∷◌, ◌++◌, if◌then◌else◌, nat_lt, slice_get, Ok, false}
use Rattle.plan_base.specs.Shape.{first_of, node_count}
use Rattle.plan_base.specs.declared.ids.NodeId.{NodeId}
use Rattle.plan_base.specs.declared.ids.GoodId.{GoodId}
use Rattle.plan_base.specs.declared.ids.RecipeId.{RecipeId}
use Rattle.plan_base.specs.declared.shape.Shape.{Shape}
use Rattle.plan_base.specs.declared.shape.Kind.TheVariants.{Recipe as RecipeKind}
use Rattle.graph_store.specs.Rows.{has_node}
use Rattle.game_types.specs.Nodes.{shape_of}
use Rattle.data_edit.specs.declared.books.Book.{Book}
use Rattle.data_edit.specs.declared.edits.Edit.{Edit}
use Rattle.data_edit.specs.declared.edits.Edit.TheVariants.{SetIngredient, DropIngredient, SetProduct, DropProduct, SetUnlock, SetTime, SetEnabled, Forbid, Permit, Grant, Revoke}
use Rattle.data_edit.specs.Edits.{effect}
use Rattle.graph_store.specs.Members.{named, node}
use Rattle.depend_rows.specs.Rows.{row_of}

-- the node of a recipe, of a good; an id that names nothing has none
abbrev pub recipe_node : Shape → RecipeId → List NodeId
recipe_node shape recipe = if nat_lt recipe.0 shape.recipes then node (first_of shape RecipeKind + recipe.0) ∷ [] else []

abbrev pub good_node_in : Shape → GoodId → List NodeId
good_node_in shape good = if nat_lt good.0 (shape.items + shape.fluids) then node (3 + good.0) ∷ [] else []

-- the recipe's node for an edit of its ingredients, of its products, of what unlocks it, and of whether it is known from the
-- start; then the good's node for an edit of products; the node of a mark; nothing for a time
abbrev pub touched_by : Shape → Edit → List NodeId
touched_by shape (SetIngredient recipe good amount) = recipe_node shape recipe
touched_by shape (DropIngredient recipe good) = recipe_node shape recipe
touched_by shape (SetProduct recipe good amount) = recipe_node shape recipe ++ good_node_in shape good
touched_by shape (DropProduct recipe good) = recipe_node shape recipe ++ good_node_in shape good
touched_by shape (SetUnlock tech recipe on) = recipe_node shape recipe
touched_by shape (SetTime recipe time) = []
touched_by shape (SetEnabled recipe on) = recipe_node shape recipe
touched_by shape (Forbid mark) = mark ∷ []
touched_by shape (Permit mark) = mark ∷ []
touched_by shape (Grant mark) = mark ∷ []
touched_by shape (Revoke mark) = mark ∷ []

-- a node's row and its two marks are as before
pub record StaysAs (old new : Book) (n : ℕ) : Type 0 where
  pub row : row_of new.game n ≡ row_of old.game n
  pub barred : slice_get new.barred n ≡ slice_get old.barred n
  pub granted : slice_get new.granted n ≡ slice_get old.granted n

-- an accepted edit leaves the nodes that it doesn't touch as they were
abbrev pub TouchesAll : Edit → Book → Type 0
TouchesAll edit book = (new : Book) → effect edit book ≡ Ok new → (n : ℕ) → has_node (touched_by (shape_of book.game) edit) n ≡ false → StaysAs book new n

-- the numbers of these nodes, of those that are nodes at all
abbrev pub numbers_below : ℕ → List NodeId → List ℕ
numbers_below count [] = []
numbers_below count (n ∷ nodes) = if nat_lt n.0 count then n.0 ∷ numbers_below count nodes else numbers_below count nodes

abbrev pub touched_numbers : Shape → List Edit → List ℕ
touched_numbers shape [] = []
touched_numbers shape (edit ∷ edits) = numbers_below (node_count shape) (touched_by shape edit) ++ touched_numbers shape edits

-- the nodes that these edits touch, in node order and each once
unfoldable pub touched_by_all : Shape → List Edit → List NodeId
touched_by_all shape edits = named 0 (node_count shape) (touched_numbers shape edits)
