-- What each edit does to a book. An edit changes one part of it, and every other part stays.
use Rattle.std.specs.Prelude.{◌≡◌, ◌+◌, Bool, true, false, List, length, Result, Ok, Err, slice_get}
use Rattle.plan_base.specs.declared.denied.Denied.{Denied}
use Rattle.plan_base.specs.Outcomes.{IsRefused}
use Rattle.plan_base.specs.Places.{with_at}
use Rattle.fractions.specs.Fraction.{Fraction}
use Rattle.plan_base.specs.declared.GoodId.{GoodId}
use Rattle.plan_base.specs.declared.NodeId.{NodeId}
use Rattle.plan_base.specs.declared.RecipeId.{RecipeId}
use Rattle.plan_base.specs.declared.TechId.{TechId}
use Rattle.game_types.specs.declared.recipes.Part.{Part}
use Rattle.game_types.specs.declared.recipes.Product.{Product}
use Rattle.game_types.specs.declared.recipes.Recipe.{Recipe}
use Rattle.game_types.specs.declared.research.Tech.{Tech}
use Rattle.data_edit.specs.declared.books.Book.{Book}
use Rattle.data_edit.specs.declared.edits.Edit.{Edit}
use Rattle.data_edit.specs.declared.edits.Edit.TheVariants.{SetIngredient, DropIngredient, SetProduct, DropProduct, SetUnlock, SetTime, SetEnabled, Forbid, Permit, Grant, Revoke}
use Rattle.data_edit.specs.declared.edits.EditFault.{EditFault}
use Rattle.data_edit.specs.declared.parts.RecipePart.{RecipePart}
use Rattle.data_edit.specs.declared.parts.RecipePart.TheVariants.{Ingredients, Products, Time, Enabled}
use Rattle.data_edit.specs.declared.parts.Inverse.{Inverse}
use Rattle.data_edit.specs.declared.parts.Inverse.TheVariants.{Recipe as OfRecipe, Unlocks, Barred, Granted}
use Rattle.data_edit.specs.Lists.{part_key, product_key, unlock_key, is_part, is_product, is_unlock, plain_part, plain_product, with_entry, with_unlock, without}
use Rattle.data_edit.specs.Faults.{◌▸◌, known, known_below, positive, changed_list, changed_time, changed_flag}

-- ---- a part in place of another
abbrev pub with_recipe_part : RecipePart → Recipe → Recipe
with_recipe_part (Ingredients list) recipe = record recipe { ingredients = list }
with_recipe_part (Products list) recipe = record recipe { products = list }
with_recipe_part (Time time) recipe = record recipe { time = time }
with_recipe_part (Enabled on) recipe = record recipe { enabled = on }

abbrev pub with_unlocks : List RecipeId → Tech → Tech
with_unlocks list tech = record tech { unlocks = list }

abbrev pub with_mark : Bool → Bool → Bool
with_mark on old = on

-- the book with a part in its place
abbrev pub restored : Inverse → Book → Book
restored (OfRecipe recipe part) book = record book { game = record book.game { recipes = with_at (with_recipe_part part) recipe.0 book.game.recipes } }
restored (Unlocks tech list) book = record book { game = record book.game { techs = with_at (with_unlocks list) tech.0 book.game.techs } }
restored (Barred node on) book = record book { barred = with_at (with_mark on) node.0 book.barred }
restored (Granted node on) book = record book { granted = with_at (with_mark on) node.0 book.granted }

-- ---- what stands in place of what
abbrev pub recipe_in : Book → RecipeId → Result Recipe EditFault
recipe_in book recipe = known (slice_get book.game.recipes recipe.0)

abbrev pub tech_in : Book → TechId → Result Tech EditFault
tech_in book tech = known (slice_get book.game.techs tech.0)

abbrev pub good_in : Book → GoodId → Result (Unit {0}) EditFault
good_in book good = known_below (length book.game.items + length book.game.fluids) good.0

unfoldable pub ingredients_set : Book → RecipeId → GoodId → Fraction → Result (List Part) EditFault
ingredients_set book recipe good amount =
    recipe_in book recipe ▸ λ old. good_in book good ▸ λ _. positive amount ▸ λ _.
    changed_list is_part old.ingredients (with_entry part_key (plain_part good amount) old.ingredients)

unfoldable pub ingredients_dropped : Book → RecipeId → GoodId → Result (List Part) EditFault
ingredients_dropped book recipe good =
    recipe_in book recipe ▸ λ old. good_in book good ▸ λ _.
    changed_list is_part old.ingredients (without part_key good.0 old.ingredients)

unfoldable pub products_set : Book → RecipeId → GoodId → Fraction → Result (List Product) EditFault
products_set book recipe good amount =
    recipe_in book recipe ▸ λ old. good_in book good ▸ λ _. positive amount ▸ λ _.
    changed_list is_product old.products (with_entry product_key (plain_product good amount) old.products)

unfoldable pub products_dropped : Book → RecipeId → GoodId → Result (List Product) EditFault
products_dropped book recipe good =
    recipe_in book recipe ▸ λ old. good_in book good ▸ λ _.
    changed_list is_product old.products (without product_key good.0 old.products)

abbrev pub unlocks_switched : RecipeId → Bool → List RecipeId → List RecipeId
unlocks_switched recipe true unlocks = with_unlock recipe unlocks
unlocks_switched recipe false unlocks = without unlock_key recipe.0 unlocks

unfoldable pub unlocks_set : Book → TechId → RecipeId → Bool → Result (List RecipeId) EditFault
unlocks_set book tech recipe on =
    tech_in book tech ▸ λ old. recipe_in book recipe ▸ λ _.
    changed_list is_unlock old.unlocks (unlocks_switched recipe on old.unlocks)

unfoldable pub time_set : Book → RecipeId → Fraction → Result Fraction EditFault
time_set book recipe time = recipe_in book recipe ▸ λ old. positive time ▸ λ _. changed_time old.time time

unfoldable pub enabled_set : Book → RecipeId → Bool → Result Bool EditFault
enabled_set book recipe on = recipe_in book recipe ▸ λ old. changed_flag old.enabled on

unfoldable pub mark_set : List Bool → NodeId → Bool → Result Bool EditFault
mark_set marks node on = known (slice_get marks node.0) ▸ λ old. changed_flag old on

-- the part that an edit puts in the place of the old one, or the first refusal
abbrev pub replacement : Edit → Book → Result Inverse EditFault
replacement (SetIngredient recipe good amount) book = ingredients_set book recipe good amount ▸ λ list. Ok (OfRecipe recipe (Ingredients list))
replacement (DropIngredient recipe good) book = ingredients_dropped book recipe good ▸ λ list. Ok (OfRecipe recipe (Ingredients list))
replacement (SetProduct recipe good amount) book = products_set book recipe good amount ▸ λ list. Ok (OfRecipe recipe (Products list))
replacement (DropProduct recipe good) book = products_dropped book recipe good ▸ λ list. Ok (OfRecipe recipe (Products list))
replacement (SetUnlock tech recipe on) book = unlocks_set book tech recipe on ▸ λ list. Ok (Unlocks tech list)
replacement (SetTime recipe time) book = time_set book recipe time ▸ λ time. Ok (OfRecipe recipe (Time time))
replacement (SetEnabled recipe on) book = enabled_set book recipe on ▸ λ on. Ok (OfRecipe recipe (Enabled on))
replacement (Forbid node) book = mark_set book.barred node true ▸ λ on. Ok (Barred node on)
replacement (Permit node) book = mark_set book.barred node false ▸ λ on. Ok (Barred node on)
replacement (Grant node) book = mark_set book.granted node true ▸ λ on. Ok (Granted node on)
replacement (Revoke node) book = mark_set book.granted node false ▸ λ on. Ok (Granted node on)

-- the book after an edit, or the first refusal
unfoldable pub effect : Edit → Book → Result Book EditFault
effect edit book = replacement edit book ▸ λ part. Ok (restored part book)

-- what a call answers that edits a book: the book after the edit is meant, or the refusal is, unless memory could not be had
abbrev pub Edits : {A : Type 0} → Result Book EditFault → Result A (Denied EditFault) → Book → Type 0
Edits meant (Ok value) new = meant ≡ Ok new
Edits meant (Err fault) new = IsRefused meant fault
