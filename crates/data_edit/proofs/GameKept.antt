-- What no edit changes of a game.
use Rattle.std.proofs.Common.{◌≡◌, ℕ, zero, suc, List, [], ◌∷◌, Ok, length, map, refl, ap, ◌∙◌, subst, arith}
use Rattle.game_types.specs.declared.games.Game.{Game}
use Rattle.game_types.specs.declared.recipes.Recipe.{Recipe}
use Rattle.game_types.specs.declared.research.Tech.{Tech}
use Rattle.data_edit.specs.declared.books.Book.{Book}
use Rattle.data_edit.specs.declared.edits.Edit.{Edit}
use Rattle.data_edit.specs.declared.parts.Inverse.{Inverse}
use Rattle.data_edit.specs.declared.parts.Inverse.TheVariants.{Recipe as OfRecipe, Unlocks, Barred, Granted}
use Rattle.data_edit.specs.declared.parts.RecipePart.{RecipePart}
use Rattle.data_edit.specs.declared.parts.RecipePart.TheVariants.{Ingredients, Products, Time, Enabled}
use Rattle.data_edit.specs.Names.{KeepsGame}
use Rattle.data_edit.specs.Edits.{effect, replacement, restored, with_recipe_part, with_unlocks}
use Rattle.plan_base.specs.Places.{with_at}
use Rattle.plan_base.proofs.Places.{with_at-past, length-with_at, with_at-suc, with_at-zero}
use Rattle.data_edit.proofs.Soundness.{bind_ok}

-- what is read of each element, where the change doesn't show in it
map-with_at : {A B : Type 0} (read : A → B) (f : A → A) → ((x : A) → read (f x) ≡ read x) → (p : ℕ) (xs : List A) → map read (with_at f p xs) ≡ map read xs
map-with_at read f same p [] = ap (map read) (with_at-past f p [] (omega arith))
map-with_at read f same zero (x ∷ xs) = ap (map read) (with_at-zero f x xs) ∙ ap (λ y. y ∷ map read xs) (same x)
map-with_at read f same (suc p) (x ∷ xs) = ap (map read) (with_at-suc f p x xs) ∙ ap (λ ys. read x ∷ ys) (map-with_at read f same p xs)

pub category_stays : (part : RecipePart) (recipe : Recipe) → (with_recipe_part part recipe).category ≡ recipe.category
category_stays (Ingredients list) recipe = refl
category_stays (Products list) recipe = refl
category_stays (Time time) recipe = refl
category_stays (Enabled on) recipe = refl

recipes_changed : (g : Game) (recipes : List Recipe) → map (λ (recipe : Recipe). recipe.category) recipes ≡ map (λ (recipe : Recipe). recipe.category) g.recipes → KeepsGame g (record g { recipes = recipes })
recipes_changed g recipes same = record {
  items = refl;
  fluids = refl;
  sources = refl;
  machines = refl;
  character = refl;
  categories = refl;
  recipes = same;
  techs = refl;
}

techs_changed : (g : Game) (techs : List Tech) → length techs ≡ length g.techs → KeepsGame g (record g { techs = techs })
techs_changed g techs same = record {
  items = refl;
  fluids = refl;
  sources = refl;
  machines = refl;
  character = refl;
  categories = refl;
  recipes = refl;
  techs = same;
}

pub same_game : (g : Game) → KeepsGame g g
same_game g = record {
  items = refl;
  fluids = refl;
  sources = refl;
  machines = refl;
  character = refl;
  categories = refl;
  recipes = refl;
  techs = refl;
}

pub restored_keeps_game : (part : Inverse) (book : Book) → KeepsGame book.game (restored part book).game
restored_keeps_game (OfRecipe recipe part) book = recipes_changed book.game _ (map-with_at (λ (r : Recipe). r.category) (with_recipe_part part) (category_stays part) recipe.0 book.game.recipes)
restored_keeps_game (Unlocks tech list) book = techs_changed book.game _ (length-with_at (with_unlocks list) tech.0 book.game.techs)
restored_keeps_game (Barred node on) book = same_game book.game
restored_keeps_game (Granted node on) book = same_game book.game

pub edit_keeps_game : (edit : Edit) (book new : Book) → effect edit book ≡ Ok new → KeepsGame book.game new.game
unfolding effect
edit_keeps_game edit book new e =
    let found = bind_ok (replacement edit book) _ new e in
    let same : restored found.0 book ≡ new = cc in
    subst (λ (b : Book). KeepsGame book.game b.game) same (restored_keeps_game found.0 book)
