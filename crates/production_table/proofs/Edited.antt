-- What an edit leaves of a game is as good for a set-up.
use Rattle.std.proofs.Common.{◌≡◌, ◌∙◌, ◌+◌, ◌<◌, ℕ, zero, suc, List, [], ◌∷◌, length, refl, sym, ap, subst, Result}
use Rattle.std.specs.Prelude.{All, Bool, true, false, not, ◌&&◌, ◌==◌, Option, Some, None, Ok, Err, nat_lt, slice_get, slice_index_or, if◌then◌else◌}
use Rattle.std.specs.List.{list_all}
use Rattle.std.proofs.lemmas.List.{length-set}
use Rattle.std.proofs.lemmas.List.Elements.{All-nil, All-cons, All-head, All-tail, All-filter}
use Rattle.fractions.specs.Fraction.{Fraction}
use Rattle.plan_base.specs.declared.ids.GoodId.{GoodId}
use Rattle.plan_base.specs.declared.ids.RecipeId.{RecipeId}
use Rattle.game_types.specs.declared.recipes.Part.{Part}
use Rattle.game_types.specs.declared.recipes.Recipe.{Recipe}
use Rattle.game_types.specs.declared.research.Tech.{Tech}
use Rattle.game_types.specs.declared.setups.Setup.{Setup}
use Rattle.game_types.specs.Goods.{good_count, solid_and_fluid}
use Rattle.game_types.specs.Lookups.{no_recipe}
use Rattle.production_table.specs.declared.tables.Table.{Table}
use Rattle.production_table.specs.Tables.{IsOfGame}
use Rattle.research_rows.specs.Research.{no_tech}
use Rattle.table_rows.specs.Setups.{has_fit, IsFitting}
use Rattle.data_edit.specs.declared.books.Book.{Book}
use Rattle.data_edit.specs.declared.edits.Edit.{Edit}
use Rattle.data_edit.specs.declared.edits.Edit.TheVariants.{SetIngredient, DropIngredient, SetProduct, DropProduct, SetUnlock, SetTime, SetEnabled, Forbid, Permit, Grant, Revoke}
use Rattle.data_edit.specs.declared.edits.EditFault.{EditFault}
use Rattle.data_edit.specs.declared.edits.EditFault.TheVariants.{Limit, NoChange}
use Rattle.data_edit.specs.declared.parts.Inverse.{Inverse}
use Rattle.data_edit.specs.declared.parts.Inverse.TheVariants.{Recipe as OfRecipe, Unlocks, Barred, Granted}
use Rattle.data_edit.specs.declared.parts.RecipePart.{RecipePart}
use Rattle.data_edit.specs.declared.parts.RecipePart.TheVariants.{Ingredients, Products, Time, Enabled}
use Rattle.data_edit.specs.Edits.{effect, enabled_set, good_in, ingredients_dropped, ingredients_set, mark_set, products_dropped, products_set, recipe_in, replacement, restored, time_set, unlocks_set, with_recipe_part, with_unlocks}
use Rattle.plan_base.specs.Places.{changed_at, with_at}
use Rattle.data_edit.specs.Faults.{◌▸◌, changed_list, known, positive}
use Rattle.data_edit.specs.Lists.{is_part, part_key, plain_part, same_lists, with_entry, without}
use Rattle.production_table.proofs.Fits.{always_fits}
use Rattle.production_table.proofs.Same.{fitting_kept, Keeps}

-- ---- a list with one element changed
at_next : {A : Type 0} (f : A → A) (place : ℕ) (x : A) (xs : List A) → with_at f (suc place) (x ∷ xs) ≡ x ∷ with_at f place xs
unfolding with_at
at_next f place x xs = changed (slice_get xs place)
  where
    changed : (found : Option _) → changed_at f (suc place) (x ∷ xs) found ≡ x ∷ changed_at f place xs found
    changed None = refl
    changed (Some y) = refl

at_each : {A : Type 0} (R : A → A → Type 0) (f : A → A) (place : ℕ) (xs : List A) (d : A) → ((x : A) → R x x) → ((x : A) → slice_get xs place ≡ Some x → R x (f x)) → (n : ℕ) → R (slice_index_or xs n d) (slice_index_or (with_at f place xs) n d)
unfolding with_at
at_each R f zero [] d same h n = same d
at_each R f (suc place) [] d same h n = same d
at_each R f zero (x ∷ xs) d same h zero = h x refl
at_each R f zero (x ∷ xs) d same h (suc n) = same (slice_index_or xs n d)
at_each {A} R f (suc place) (x ∷ xs) d same h zero = subst (λ (ys : List A). R x (slice_index_or ys zero d)) (sym (at_next f place x xs)) (same x)
at_each {A} R f (suc place) (x ∷ xs) d same h (suc n) = subst (λ (ys : List A). R (slice_index_or xs n d) (slice_index_or ys (suc n) d)) (sym (at_next f place x xs)) (at_each R f place xs d same h n)

length-with_at : {A : Type 0} (f : A → A) (place : ℕ) (xs : List A) → length (with_at f place xs) ≡ length xs
unfolding with_at
length-with_at f place xs = changed (slice_get xs place)
  where
    changed : (found : Option _) → length (changed_at f place xs found) ≡ length xs
    changed None = refl
    changed (Some x) = length-set xs place (f x)

-- ---- steps that may be refused
bind_ok : {A B : Type 0} (first : Result A EditFault) (next : A → Result B EditFault) (y : B) → (first ▸ next) ≡ Ok y → (x : A) × (first ≡ Ok x) × (next x ≡ Ok y)
bind_ok (Ok x) next y e = (x, refl, e)
bind_ok (Err fault) next y e = absurd (cc)

known_ok : {A : Type 0} (found : Option A) (x : A) → known found ≡ Ok x → found ≡ Some x
known_ok None x e = absurd (cc)
known_ok (Some y) x e = cc

chosen : {A : Type 0} (a b : Bool) (list new : A) → (if a then Err NoChange else if b then Err Limit else Ok list) ≡ Ok new → list ≡ new
chosen true b list new e = absurd (cc)
chosen false true list new e = absurd (cc)
chosen false false list new e = cc

changed_ok : {E : Type 0} (same : E → E → Bool) (old list new : List E) → changed_list same old list ≡ Ok new → list ≡ new
changed_ok same old list new e = chosen (same_lists same list old) (nat_lt 1024 (length list)) list new e

-- ---- lists of ingredients that pass a test
abbrev Passes : (Part → Bool) → Part → Type 0
Passes p part = p part ≡ true

both_true : (a b : Bool) → (a && b) ≡ true → (a ≡ true) × (b ≡ true)
both_true true b h = (refl, h)
both_true false b h = absurd (cc)

true_both : (a b : Bool) → a ≡ true → b ≡ true → (a && b) ≡ true
true_both true b h k = k
true_both false b h k = absurd (cc)

all_of : (p : Part → Bool) (parts : List Part) → list_all p parts ≡ true → All (Passes p) parts
all_of p [] h = All-nil (Passes p)
all_of p (part ∷ parts) h = let two = both_true (p part) (list_all p parts) h in All-cons (Passes p) part parts two.0 (all_of p parts two.1)

of_all : (p : Part → Bool) (parts : List Part) → All (Passes p) parts → list_all p parts ≡ true
of_all p [] h = refl
of_all p (part ∷ parts) h = true_both (p part) (list_all p parts) (All-head (Passes p) part parts h) (of_all p parts (All-tail (Passes p) part parts h))

all_without : (p : Part → Bool) (number : ℕ) (parts : List Part) → All (Passes p) parts → All (Passes p) (without part_key number parts)
all_without p number parts h = All-filter (λ entry. not (part_key entry == number)) (Passes p) parts h

all_with : (p : Part → Bool) (entry : Part) (parts : List Part) → p entry ≡ true → All (Passes p) parts → All (Passes p) (with_entry part_key entry parts)
all_with p entry [] h each = All-cons (Passes p) entry [] h (All-nil (Passes p))
all_with p entry (part ∷ parts) h each =
    elim (part_key part == part_key entry) as (λ b. All (Passes p) (if b then entry ∷ without part_key (part_key entry) parts else part ∷ with_entry part_key entry parts)) [
      | true ↦ All-cons (Passes p) entry _ h (all_without p (part_key entry) parts (All-tail (Passes p) part parts each))
      | false ↦ All-cons (Passes p) part _ (All-head (Passes p) part parts each) (all_with p entry parts h (All-tail (Passes p) part parts each))
    ]

-- ---- the part that an edit puts in its place: where the old ingredients pass a test, the new ones do
abbrev IsFitPart : (Part → Bool) → Inverse → Book → Type 0
IsFitPart p (OfRecipe recipe (Ingredients list)) book = (old : Recipe) → slice_get book.game.recipes recipe.0 ≡ Some old → list_all p old.ingredients ≡ true → list_all p list ≡ true
IsFitPart p (OfRecipe recipe (Products list)) book = Unit {0}
IsFitPart p (OfRecipe recipe (Time time)) book = Unit {0}
IsFitPart p (OfRecipe recipe (Enabled on)) book = Unit {0}
IsFitPart p (Unlocks tech list) book = Unit {0}
IsFitPart p (Barred node on) book = Unit {0}
IsFitPart p (Granted node on) book = Unit {0}

set_fits : (p : Part → Bool) (book : Book) (recipe : RecipeId) (good : GoodId) (amount : Fraction) (list : List Part) → p (plain_part good amount) ≡ true → ingredients_set book recipe good amount ≡ Ok list
    → IsFitPart p (OfRecipe recipe (Ingredients list)) book
unfolding ingredients_set
set_fits p book recipe good amount list h e =
    let found = bind_ok (recipe_in book recipe) _ list e in
    let named = bind_ok (good_in book good) _ list found.2 in
    let passed = bind_ok (positive amount) _ list named.2 in
    let is : slice_get book.game.recipes recipe.0 ≡ Some found.0 = known_ok (slice_get book.game.recipes recipe.0) found.0 found.1 in
    let new : with_entry part_key (plain_part good amount) found.0.ingredients ≡ list = changed_ok is_part found.0.ingredients (with_entry part_key (plain_part good amount) found.0.ingredients) list passed.2 in
    λ old at fit.
    let same : old ≡ found.0 = cc in
    let fits : list_all p found.0.ingredients ≡ true = subst (λ (r : Recipe). list_all p r.ingredients ≡ true) same fit in
    subst (λ (parts : List Part). list_all p parts ≡ true) new
    (of_all p (with_entry part_key (plain_part good amount) found.0.ingredients) (all_with p (plain_part good amount) found.0.ingredients h (all_of p found.0.ingredients fits)))

dropped_fits : (p : Part → Bool) (book : Book) (recipe : RecipeId) (good : GoodId) (list : List Part) → ingredients_dropped book recipe good ≡ Ok list → IsFitPart p (OfRecipe recipe (Ingredients list)) book
unfolding ingredients_dropped
dropped_fits p book recipe good list e =
    let found = bind_ok (recipe_in book recipe) _ list e in
    let named = bind_ok (good_in book good) _ list found.2 in
    let is : slice_get book.game.recipes recipe.0 ≡ Some found.0 = known_ok (slice_get book.game.recipes recipe.0) found.0 found.1 in
    let new : without part_key good.0 found.0.ingredients ≡ list = changed_ok is_part found.0.ingredients (without part_key good.0 found.0.ingredients) list named.2 in
    λ old at fit.
    let same : old ≡ found.0 = cc in
    let fits : list_all p found.0.ingredients ≡ true = subst (λ (r : Recipe). list_all p r.ingredients ≡ true) same fit in
    subst (λ (parts : List Part). list_all p parts ≡ true) new (of_all p (without part_key good.0 found.0.ingredients) (all_without p good.0 found.0.ingredients (all_of p found.0.ingredients fits)))

made : {A : Type 0} (p : Part → Bool) (make : A → Inverse) (book : Book) (first : Result A EditFault) (part : Inverse) → ((x : A) → first ≡ Ok x → IsFitPart p (make x) book) → (first ▸ λ x. Ok (make x)) ≡ Ok part → IsFitPart p part book
made p make book (Ok x) part fits e = let same : make x ≡ part = cc in subst (λ (q : Inverse). IsFitPart p q book) same (fits x refl)
made p make book (Err fault) part fits e = absurd (cc)

part_fits : (p : Part → Bool) (edit : Edit) (book : Book) (part : Inverse) → ((good : GoodId) (amount : Fraction) → p (plain_part good amount) ≡ true) → replacement edit book ≡ Ok part → IsFitPart p part book
part_fits p (SetIngredient recipe good amount) book part h e = made p (λ list. OfRecipe recipe (Ingredients list)) book (ingredients_set book recipe good amount) part (λ list k. set_fits p book recipe good amount list (h good amount) k) e
part_fits p (DropIngredient recipe good) book part h e = made p (λ list. OfRecipe recipe (Ingredients list)) book (ingredients_dropped book recipe good) part (λ list k. dropped_fits p book recipe good list k) e
part_fits p (SetProduct recipe good amount) book part h e = made p (λ list. OfRecipe recipe (Products list)) book (products_set book recipe good amount) part (λ list k. tt) e
part_fits p (DropProduct recipe good) book part h e = made p (λ list. OfRecipe recipe (Products list)) book (products_dropped book recipe good) part (λ list k. tt) e
part_fits p (SetUnlock tech recipe on) book part h e = made p (λ list. Unlocks tech list) book (unlocks_set book tech recipe on) part (λ list k. tt) e
part_fits p (SetTime recipe time) book part h e = made p (λ time. OfRecipe recipe (Time time)) book (time_set book recipe time) part (λ time k. tt) e
part_fits p (SetEnabled recipe on) book part h e = made p (λ on. OfRecipe recipe (Enabled on)) book (enabled_set book recipe on) part (λ on k. tt) e
part_fits p (Forbid node) book part h e = made p (λ on. Barred node on) book (mark_set book.barred node true) part (λ on k. tt) e
part_fits p (Permit node) book part h e = made p (λ on. Barred node on) book (mark_set book.barred node false) part (λ on k. tt) e
part_fits p (Grant node) book part h e = made p (λ on. Granted node on) book (mark_set book.granted node true) part (λ on k. tt) e
part_fits p (Revoke node) book part h e = made p (λ on. Granted node on) book (mark_set book.granted node false) part (λ on k. tt) e

-- ---- the game with that part
category_same : (part : RecipePart) (r : Recipe) → (with_recipe_part part r).category ≡ r.category
category_same (Ingredients list) r = refl
category_same (Products list) r = refl
category_same (Time time) r = refl
category_same (Enabled on) r = refl

launch_same : (part : RecipePart) (r : Recipe) → (with_recipe_part part r).launch ≡ r.launch
launch_same (Ingredients list) r = refl
launch_same (Products list) r = refl
launch_same (Time time) r = refl
launch_same (Enabled on) r = refl

fits_same : (p : Part → Bool) (book : Book) (recipe : RecipeId) (part : RecipePart) (r : Recipe) → IsFitPart p (OfRecipe recipe part) book → slice_get book.game.recipes recipe.0 ≡ Some r → list_all p r.ingredients ≡ true
    → list_all p (with_recipe_part part r).ingredients ≡ true
fits_same p book recipe (Ingredients list) r h is fit = h r is fit
fits_same p book recipe (Products list) r h is fit = fit
fits_same p book recipe (Time time) r h is fit = fit
fits_same p book recipe (Enabled on) r h is fit = fit

abbrev SameCategory : Recipe → Recipe → Type 0
SameCategory r s = s.category ≡ r.category

abbrev SameLaunch : Recipe → Recipe → Type 0
SameLaunch r s = s.launch ≡ r.launch

abbrev FitsToo : (Part → Bool) → Recipe → Recipe → Type 0
FitsToo p r s = list_all p r.ingredients ≡ true → list_all p s.ingredients ≡ true

abbrev SamePacks : Tech → Tech → Type 0
SamePacks t u = u.ingredients ≡ t.ingredients

recipe_keeps : (book : Book) (setup : Setup) (recipe : RecipeId) (part : RecipePart) → IsFitPart (has_fit book.game setup) (OfRecipe recipe part) book
    → Keeps book.game setup (with_at (with_recipe_part part) recipe.0 book.game.recipes) book.game.techs
recipe_keeps book setup recipe part h = record {
  as_many = length-with_at (with_recipe_part part) recipe.0 book.game.recipes;
  as_many_techs = refl;
  category = at_each SameCategory (with_recipe_part part) recipe.0 book.game.recipes no_recipe (λ r. refl) (λ r is. category_same part r);
  launch = at_each SameLaunch (with_recipe_part part) recipe.0 book.game.recipes no_recipe (λ r. refl) (λ r is. launch_same part r);
  fits = at_each (FitsToo (has_fit book.game setup)) (with_recipe_part part) recipe.0 book.game.recipes no_recipe (λ r fit. fit) (λ r is fit. fits_same (has_fit book.game setup) book recipe part r h is fit);
  packs = λ n. refl;
}

part_kept : (part : Inverse) (book : Book) (setup : Setup) → IsFitPart (has_fit book.game setup) part book → IsFitting book.game setup → IsFitting (restored part book).game setup
part_kept (OfRecipe recipe part) book setup h fitting = fitting_kept book.game setup (with_at (with_recipe_part part) recipe.0 book.game.recipes) book.game.techs (recipe_keeps book setup recipe part h) fitting
part_kept (Unlocks tech list) book setup h fitting =
    fitting_kept book.game setup book.game.recipes (with_at (with_unlocks list) tech.0 book.game.techs)
    (record {
      as_many = refl;
      as_many_techs = length-with_at (with_unlocks list) tech.0 book.game.techs;
      category = λ n. refl;
      launch = λ n. refl;
      fits = λ n fit. fit;
      packs = at_each SamePacks (with_unlocks list) tech.0 book.game.techs no_tech (λ t. refl) (λ t is. refl);
    })
    fitting
part_kept (Barred node on) book setup h fitting = fitting
part_kept (Granted node on) book setup h fitting = fitting

pub edit_kept : (edit : Edit) (old new : Book) (setup : Setup) → effect edit old ≡ Ok new → IsFitting old.game setup → IsFitting new.game setup
unfolding effect
edit_kept edit old new setup e fitting =
    let one = bind_ok (replacement edit old) (λ part. Ok (restored part old)) new e in
    let last : Ok (restored one.0 old) ≡ Ok new = one.2 in
    let same : restored one.0 old ≡ new = cc in
    subst (λ (book : Book). IsFitting book.game setup) same
    (part_kept one.0 old setup (part_fits (has_fit old.game setup) edit old one.0 (λ good amount. always_fits old.game setup.at good.0) one.1) fitting)

-- ---- as many goods
counts_same : (part : Inverse) (book : Book) → good_count (restored part book).game ≡ good_count book.game
counts_same (OfRecipe recipe part) book = refl
counts_same (Unlocks tech list) book = ap (λ (n : ℕ). solid_and_fluid book.game + 1 + n) (length-with_at (with_unlocks list) tech.0 book.game.techs)
counts_same (Barred node on) book = refl
counts_same (Granted node on) book = refl

pub goods_kept : (edit : Edit) (old new : Book) (t : Table) → effect edit old ≡ Ok new → IsOfGame old.game t → IsOfGame new.game t
unfolding effect
goods_kept edit old new t e of_game =
    let one = bind_ok (replacement edit old) (λ part. Ok (restored part old)) new e in
    let last : Ok (restored one.0 old) ≡ Ok new = one.2 in
    let same : restored one.0 old ≡ new = cc in
    let count : good_count old.game ≡ good_count new.game = sym (counts_same one.0 old) ∙ ap (λ (book : Book). good_count book.game) same in
    record {
      wants = subst (λ (n : ℕ). All (λ want. want.0.0 < n) t.wants) count of_game.wants;
      imports = subst (λ (n : ℕ). All (λ import_. import_.0.0 < n) t.imports) count of_game.imports;
      surpluses = subst (λ (n : ℕ). All (λ surplus. surplus.0.0 < n) t.surpluses) count of_game.surpluses;
    }
