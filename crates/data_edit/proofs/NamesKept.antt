-- No edit changes which things there are and their names.
use Rattle.std.proofs.Common.{◌≡◌, ℕ, List, Ok, length, refl, ap, subst}
use Rattle.plan_base.specs.declared.shape.Shape.{Shape}
use Rattle.plan_base.specs.declared.shape.Kind.{Kind}
use Rattle.plan_base.specs.declared.shape.Kind.TheVariants.{Special, Item, Fluid, Recipe as RecipeKind, Source, Machine, Tech as TechKind}
use Rattle.plan_base.proofs.Places.{length-with_at}
use Rattle.game_types.specs.Nodes.{names_of}
use Rattle.game_types.specs.declared.games.Game.{Game}
use Rattle.game_types.specs.declared.recipes.Recipe.{Recipe}
use Rattle.game_types.specs.declared.research.Tech.{Tech}
use Rattle.data_edit.specs.declared.books.Book.{Book}
use Rattle.data_edit.specs.declared.edits.Edit.{Edit}
use Rattle.data_edit.specs.declared.parts.Inverse.{Inverse}
use Rattle.data_edit.specs.declared.parts.Inverse.TheVariants.{Recipe as OfRecipe, Unlocks, Barred, Granted}
use Rattle.data_edit.specs.Names.{KeepsNames}
use Rattle.data_edit.specs.Edits.{effect, replacement, restored, with_recipe_part, with_unlocks}
use Rattle.data_edit.proofs.Soundness.{bind_ok}

-- another list of recipes, or of technologies, that is as long
recipes_kept : (g : Game) (recipes : List Recipe) → length recipes ≡ length g.recipes → KeepsNames g (record g { recipes = recipes })
recipes_kept g recipes same = record {
  shape = ap (λ (n : ℕ). (let s : Shape = record { items = length g.items; fluids = length g.fluids; recipes = n; sources = length g.sources; machines = length g.machines; techs = length g.techs } in s)) same;
  names = λ kind. named kind;
}
  where
    named : (kind : Kind) → names_of (record g { recipes = recipes }) kind ≡ names_of g kind
    named Special = refl
    named Item = refl
    named Fluid = refl
    named RecipeKind = refl
    named Source = refl
    named Machine = refl
    named TechKind = refl

techs_kept : (g : Game) (techs : List Tech) → length techs ≡ length g.techs → KeepsNames g (record g { techs = techs })
techs_kept g techs same = record {
  shape = ap (λ (n : ℕ). (let s : Shape = record { items = length g.items; fluids = length g.fluids; recipes = length g.recipes; sources = length g.sources; machines = length g.machines; techs = n } in s)) same;
  names = λ kind. named kind;
}
  where
    named : (kind : Kind) → names_of (record g { techs = techs }) kind ≡ names_of g kind
    named Special = refl
    named Item = refl
    named Fluid = refl
    named RecipeKind = refl
    named Source = refl
    named Machine = refl
    named TechKind = refl

pub restored_keeps : (part : Inverse) (book : Book) → KeepsNames book.game (restored part book).game
restored_keeps (OfRecipe recipe part) book = recipes_kept book.game _ (length-with_at (with_recipe_part part) recipe.0 book.game.recipes)
restored_keeps (Unlocks tech list) book = techs_kept book.game _ (length-with_at (with_unlocks list) tech.0 book.game.techs)
restored_keeps (Barred node on) book = record { shape = refl; names = λ kind. refl }
restored_keeps (Granted node on) book = record { shape = refl; names = λ kind. refl }

pub edit_keeps : (edit : Edit) (book new : Book) → effect edit book ≡ Ok new → KeepsNames book.game new.game
unfolding effect
edit_keeps edit book new e =
    let found = bind_ok (replacement edit book) _ new e in
    let same : restored found.0 book ≡ new = cc in
    subst (λ (b : Book). KeepsNames book.game b.game) same (restored_keeps found.0 book)
