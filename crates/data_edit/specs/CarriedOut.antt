-- What an edit does to a book, whatever stood there before: the law of its effect.
use Rattle.std.specs.Prelude.{◌≡◌, ◌≢◌, true, false, Result, Ok, Err}
use Rattle.plan_base.specs.declared.RecipeId.{RecipeId}
use Rattle.plan_base.specs.declared.TechId.{TechId}
use Rattle.game_types.specs.declared.recipes.Recipe.{Recipe}
use Rattle.game_types.specs.declared.research.Tech.{Tech}
use Rattle.data_edit.specs.declared.books.Book.{Book}
use Rattle.data_edit.specs.declared.edits.Edit.{Edit}
use Rattle.data_edit.specs.declared.edits.Edit.TheVariants.{SetIngredient, DropIngredient, SetProduct, DropProduct, SetUnlock, SetTime, SetEnabled, Forbid, Permit, Grant, Revoke}
use Rattle.data_edit.specs.declared.edits.EditFault.{EditFault}
use Rattle.data_edit.specs.declared.edits.EditFault.TheVariants.{NoChange}
use Rattle.data_edit.specs.Lists.{part_key, plain_part, plain_product, product_key, with_entry, without}
use Rattle.data_edit.specs.Edits.{unlocks_switched}
use Rattle.plan_base.specs.Places.{with_at}

-- the book with a recipe, a technology changed
abbrev pub with_recipe : (Recipe → Recipe) → RecipeId → Book → Book
with_recipe change recipe book = record book { game = record book.game { recipes = with_at change recipe.0 book.game.recipes } }

abbrev pub with_tech : (Tech → Tech) → TechId → Book → Book
with_tech change tech book = record book { game = record book.game { techs = with_at change tech.0 book.game.techs } }

-- the book after an edit that nothing refuses
abbrev pub carried_out : Edit → Book → Book
carried_out (SetIngredient recipe good amount) book = with_recipe (λ old. record old { ingredients = with_entry part_key (plain_part good amount) old.ingredients }) recipe book
carried_out (DropIngredient recipe good) book = with_recipe (λ old. record old { ingredients = without part_key good.0 old.ingredients }) recipe book
carried_out (SetProduct recipe good amount) book = with_recipe (λ old. record old { products = with_entry product_key (plain_product good amount) old.products }) recipe book
carried_out (DropProduct recipe good) book = with_recipe (λ old. record old { products = without product_key good.0 old.products }) recipe book
carried_out (SetUnlock tech recipe on) book = with_tech (λ old. record old { unlocks = unlocks_switched recipe on old.unlocks }) tech book
carried_out (SetTime recipe time) book = with_recipe (λ old. record old { time = time }) recipe book
carried_out (SetEnabled recipe on) book = with_recipe (λ old. record old { enabled = on }) recipe book
carried_out (Forbid node) book = record book { barred = with_at (λ old. true) node.0 book.barred }
carried_out (Permit node) book = record book { barred = with_at (λ old. false) node.0 book.barred }
carried_out (Grant node) book = record book { granted = with_at (λ old. true) node.0 book.granted }
carried_out (Revoke node) book = record book { granted = with_at (λ old. false) node.0 book.granted }

-- an outcome that is accepted is this book, which is another than before; and where it is refused for changing nothing,
-- this book is the one before
abbrev pub Accepts : Result Book EditFault → Book → Book → Type 0
Accepts outcome after before = (new : Book) → outcome ≡ Ok new → (new ≡ after) × (new ≢ before)

abbrev pub RefusesNoChange : Result Book EditFault → Book → Book → Type 0
RefusesNoChange outcome after before = outcome ≡ Err NoChange → after ≡ before
