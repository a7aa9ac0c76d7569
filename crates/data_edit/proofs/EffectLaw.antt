-- An accepted edit does what it says and changes the book; one that is refused for changing nothing would change nothing.
use Rattle.std.proofs.Common.{◌≡◌, ℕ, ◌+◌, Bool, true, false, List, Option, Some, None, Result, Ok, Err, length, get_or, set, refl, sym, ap, ◌∙◌, nat_lt}
use Rattle.std.specs.Prelude.{◌≢◌, slice_get, if◌then◌else◌}
use Rattle.std.specs.Bool.{Decides}
use Rattle.std.proofs.lemmas.List.{get_or-set_same, set-get_or}
use Rattle.std.proofs.lemmas.Option.{get_or_from_slice_get, slice_get_within}
use Rattle.fractions.specs.Fraction.{Fraction}
use Rattle.fractions.specs.Signs.{is_positive}
use Rattle.plan_base.specs.declared.GoodId.{GoodId}
use Rattle.plan_base.specs.declared.NodeId.{NodeId}
use Rattle.plan_base.specs.declared.RecipeId.{RecipeId}
use Rattle.plan_base.specs.declared.TechId.{TechId}
use Rattle.game_types.specs.declared.recipes.Part.{Part}
use Rattle.game_types.specs.declared.recipes.Product.{Product}
use Rattle.game_types.specs.declared.recipes.Recipe.{Recipe}
use Rattle.game_types.specs.declared.research.Tech.{Tech}
use Rattle.data_edit.specs.declared.books.Book.{Book}
use Rattle.data_edit.specs.declared.edits.Edit.{Edit}
use Rattle.data_edit.specs.declared.edits.Edit.TheVariants.{SetIngredient, DropIngredient, SetProduct, DropProduct, SetUnlock, SetTime, SetEnabled, Forbid, Permit, Grant, Revoke}
use Rattle.data_edit.specs.declared.edits.EditFault.{EditFault}
use Rattle.data_edit.specs.declared.edits.EditFault.TheVariants.{Unknown, NotPositive, NoChange, Limit}
use Rattle.data_edit.specs.declared.parts.Inverse.{Inverse}
use Rattle.data_edit.specs.declared.parts.Inverse.TheVariants.{Recipe as OfRecipe, Unlocks, Barred, Granted}
use Rattle.data_edit.specs.declared.parts.RecipePart.TheVariants.{Ingredients, Products, Time, Enabled}
use Rattle.data_edit.specs.Lists.{is_fraction, is_part, is_product, is_unlock, part_key, plain_part, plain_product, product_key, same_lists, with_entry, without}
use Rattle.data_edit.specs.Faults.{◌▸◌, changed_flag, known, known_below, positive}
use Rattle.data_edit.specs.Edits.{effect, enabled_set, ingredients_dropped, ingredients_set, mark_set, products_dropped, products_set, restored, time_set, unlocks_set, unlocks_switched, with_mark, with_recipe_part, with_unlocks}
use Rattle.plan_base.specs.Places.{changed_at, with_at}
use Rattle.data_edit.specs.CarriedOut.{Accepts, RefusesNoChange, carried_out}
use Rattle.data_edit.proofs.Sameness.{Decides-fraction, Decides-lists, Decides-part, Decides-product, Decides-unlock}

-- ---- outcomes: what holds of a value, and what holds where nothing would change
abbrev pub Means : {A : Type 0} → Result A EditFault → (A → Type 0) → Type 0 → Type 0
Means {A} outcome P Q = ((x : A) → outcome ≡ Ok x → P x) × (outcome ≡ Err NoChange → Q)

means_known : {A B : Type 0} (found : Option A) (next : A → Result B EditFault) (P : B → Type 0) (Q : Type 0) → ((x : A) → found ≡ Some x → Means (next x) P Q) → Means (known found ▸ next) P Q
means_known None next P Q h = (λ x e. absurd cc, λ e. absurd cc)
means_known (Some x) next P Q h = h x refl

means_below : {B : Type 0} (count number : ℕ) (next : Unit {0} → Result B EditFault) (P : B → Type 0) (Q : Type 0) → Means (next tt) P Q → Means (known_below count number ▸ next) P Q
means_below count number next P Q h = cases (nat_lt number count)
  where
    cases : (b : Bool) → Means ((if b then Ok tt else Err Unknown) ▸ next) P Q
    cases true = h
    cases false = (λ x e. absurd cc, λ e. absurd cc)

means_positive : {B : Type 0} (number : Fraction) (next : Unit {0} → Result B EditFault) (P : B → Type 0) (Q : Type 0) → Means (next tt) P Q → Means (positive number ▸ next) P Q
means_positive number next P Q h = cases (is_positive number)
  where
    cases : (b : Bool) → Means ((if b then Ok tt else Err NotPositive) ▸ next) P Q
    cases true = h
    cases false = (λ x e. absurd cc, λ e. absurd cc)

means_list : {A : Type 0} (a b : Bool) (old list : A) → Decides a (list ≡ old) → Means (if a then Err NoChange else if b then Err Limit else Ok list) (λ new. (new ≡ list) × (list ≢ old)) (list ≡ old)
means_list true b old list d = (λ x e. absurd cc, λ e. d.0 refl)
means_list false true old list d = (λ x e. absurd cc, λ e. absurd cc)
means_list false false old list d = (λ x e. (cc, λ same. let wrong : false ≡ true = d.1 same in absurd cc), λ e. absurd cc)

means_value : {A : Type 0} (a : Bool) (old list : A) → Decides a (list ≡ old) → Means (if a then Err NoChange else Ok list) (λ new. (new ≡ list) × (list ≢ old)) (list ≡ old)
means_value true old list d = (λ x e. absurd cc, λ e. d.0 refl)
means_value false old list d = (λ x e. (cc, λ same. let wrong : false ≡ true = d.1 same in absurd cc), λ e. absurd cc)

means_flag : (old on : Bool) → Means (changed_flag old on) (λ new. (new ≡ on) × (on ≢ old)) (on ≡ old)
means_flag true true = (λ x e. absurd cc, λ e. refl)
means_flag true false = (λ x e. (cc, λ same. absurd cc), λ e. absurd cc)
means_flag false true = (λ x e. (cc, λ same. absurd cc), λ e. absurd cc)
means_flag false false = (λ x e. absurd cc, λ e. refl)

-- ---- elements changed in their place
with_at-found : {A : Type 0} (f : A → A) (place : ℕ) (xs : List A) (x : A) → slice_get xs place ≡ Some x → with_at f place xs ≡ set xs place (f x)
unfolding with_at
with_at-found f place xs x e = ap (changed_at f place xs) e

with_at-agrees : {A : Type 0} (f g : A → A) (place : ℕ) (xs : List A) (x : A) → slice_get xs place ≡ Some x → f x ≡ g x → with_at f place xs ≡ with_at g place xs
with_at-agrees f g place xs x e same = with_at-found f place xs x e ∙ ap (set xs place) same ∙ sym (with_at-found g place xs x e)

with_at-same : {A : Type 0} (f : A → A) (place : ℕ) (xs : List A) (x : A) → slice_get xs place ≡ Some x → f x ≡ x → with_at f place xs ≡ xs
with_at-same f place xs x e same =
    with_at-found f place xs x e ∙ ap (set xs place) (same ∙ sym (get_or_from_slice_get xs place x x e)) ∙ set-get_or xs place x

with_at-kept : {A : Type 0} (f : A → A) (place : ℕ) (xs : List A) (x : A) → slice_get xs place ≡ Some x → with_at f place xs ≡ xs → f x ≡ x
with_at-kept f place xs x e kept =
    sym (get_or-set_same xs place (f x) x (slice_get_within xs place x e))
    ∙ ap (λ ys. get_or ys place x) (sym (with_at-found f place xs x e) ∙ kept)
    ∙ get_or_from_slice_get xs place x x e

-- ---- an edit of one part, seen as a list of things that each have the part
-- what an outcome means for the part of the thing found
abbrev pub FoundAnother : {E A : Type 0} → List E → ℕ → (E → A) → (E → A) → A → Type 0
FoundAnother {E} xs place get change new = (old : E) × (slice_get xs place ≡ Some old) × (new ≡ change old) × (change old ≢ get old)

abbrev pub FoundSame : {E A : Type 0} → List E → ℕ → (E → A) → (E → A) → Type 0
FoundSame {E} xs place get change = (old : E) × (slice_get xs place ≡ Some old) × (change old ≡ get old)

abbrev pub Law : Result Book EditFault → Book → Book → Type 0
Law outcome after before = Accepts outcome after before × RefusesNoChange outcome after before

module _ {E A : Type 0} (book : Book) (list_of : Book → List E) (put : List E → Book) (back : (ys : List E) → list_of (put ys) ≡ ys) (unchanged : put (list_of book) ≡ book)
    (place : ℕ) (get : E → A) (with : A → E → E) (get-with : (a : A) (x : E) → get (with a x) ≡ a) (with-get : (x : E) → with (get x) x ≡ x)
    (make : A → Inverse) (restores : (a : A) → restored (make a) book ≡ put (with_at (with a) place (list_of book))) (change : E → A) where
  part_law : (outcome : Result A EditFault) → Means outcome (FoundAnother (list_of book) place get change) (FoundSame (list_of book) place get change)
      → Law ((outcome ▸ λ a. Ok (make a)) ▸ λ part. Ok (restored part book)) (put (with_at (λ x. with (change x) x) place (list_of book))) book
  part_law (Ok a) means =
      let m : FoundAnother (list_of book) place get change a = means.0 a refl in
      let same : restored (make a) book ≡ put (with_at (λ x. with (change x) x) place (list_of book)) =
      restores a ∙ ap put (with_at-agrees (with a) (λ x. with (change x) x) place (list_of book) m.0 m.1 (ap (λ b. with b m.0) m.2)) in (
        λ new e.
            let is : restored (make a) book ≡ new = cc in (
              sym is ∙ same,
              λ kept.
                  let list_kept : with_at (with a) place (list_of book) ≡ list_of book = sym (back (with_at (with a) place (list_of book))) ∙ ap list_of (sym (restores a) ∙ is ∙ kept) in
                  let part_kept : a ≡ get m.0 = sym (get-with a m.0) ∙ ap get (with_at-kept (with a) place (list_of book) m.0 m.1 list_kept) in
                  m.3 (sym m.2 ∙ part_kept),
            ),
        λ e. absurd cc,
      )
  part_law (Err fault) means = (
    λ new e. absurd cc,
    λ e.
        let none : fault ≡ NoChange = cc in
        let m : FoundSame (list_of book) place get change = means.1 (ap Err none) in
        ap put (with_at-same (λ x. with (change x) x) place (list_of book) m.0 m.1 (ap (λ b. with b m.0) m.2 ∙ with-get m.0)) ∙ unchanged,
  )

abbrev with_recipes : Book → List Recipe → Book
with_recipes book recipes = record book { game = record book.game { recipes = recipes } }

abbrev with_techs : Book → List Tech → Book
with_techs book techs = record book { game = record book.game { techs = techs } }

abbrev with_barred : Book → List Bool → Book
with_barred book marks = record book { barred = marks }

abbrev with_granted : Book → List Bool → Book
with_granted book marks = record book { granted = marks }

-- from what an outcome means for what is found to what it means for the place
found : {E A : Type 0} (xs : List E) (place : ℕ) (get change : E → A) (x : E) (outcome : Result A EditFault) → slice_get xs place ≡ Some x
    → Means outcome (λ new. (new ≡ change x) × (change x ≢ get x)) (change x ≡ get x) → Means outcome (FoundAnother xs place get change) (FoundSame xs place get change)
found xs place get change x outcome e means = (λ new h. (x, e, (means.0 new h).0, (means.0 new h).1), λ h. (x, e, means.1 h))

ingredients_set_means : (book : Book) (recipe : RecipeId) (good : GoodId) (amount : Fraction)
    → Means (ingredients_set book recipe good amount) (FoundAnother book.game.recipes recipe.0 (λ r. r.ingredients) (λ r. with_entry part_key (plain_part good amount) r.ingredients))
    (FoundSame book.game.recipes recipe.0 (λ r. r.ingredients) (λ r. with_entry part_key (plain_part good amount) r.ingredients))
unfolding ingredients_set
ingredients_set_means book recipe good amount =
    let get : Recipe → List Part = λ r. r.ingredients in
    let change : Recipe → List Part = λ r. with_entry part_key (plain_part good amount) r.ingredients in
    let P : List Part → Type 0 = FoundAnother book.game.recipes recipe.0 get change in
    let Q : Type 0 = FoundSame book.game.recipes recipe.0 get change in
    means_known (slice_get book.game.recipes recipe.0) _ P Q (λ old e.
    means_below (length book.game.items + length book.game.fluids) good.0 _ P Q (
    means_positive amount _ P Q (
    found book.game.recipes recipe.0 get change old _ e
    (means_list (same_lists is_part (change old) (get old)) (nat_lt 1024 (length (change old))) (get old) (change old) (Decides-lists is_part Decides-part (change old) (get old))))))

ingredients_dropped_means : (book : Book) (recipe : RecipeId) (good : GoodId)
    → Means (ingredients_dropped book recipe good) (FoundAnother book.game.recipes recipe.0 (λ r. r.ingredients) (λ r. without part_key good.0 r.ingredients))
    (FoundSame book.game.recipes recipe.0 (λ r. r.ingredients) (λ r. without part_key good.0 r.ingredients))
unfolding ingredients_dropped
ingredients_dropped_means book recipe good =
    let get : Recipe → List Part = λ r. r.ingredients in
    let change : Recipe → List Part = λ r. without part_key good.0 r.ingredients in
    let P : List Part → Type 0 = FoundAnother book.game.recipes recipe.0 get change in
    let Q : Type 0 = FoundSame book.game.recipes recipe.0 get change in
    means_known (slice_get book.game.recipes recipe.0) _ P Q (λ old e.
    means_below (length book.game.items + length book.game.fluids) good.0 _ P Q (
    found book.game.recipes recipe.0 get change old _ e
    (means_list (same_lists is_part (change old) (get old)) (nat_lt 1024 (length (change old))) (get old) (change old) (Decides-lists is_part Decides-part (change old) (get old)))))

products_set_means : (book : Book) (recipe : RecipeId) (good : GoodId) (amount : Fraction)
    → Means (products_set book recipe good amount) (FoundAnother book.game.recipes recipe.0 (λ r. r.products) (λ r. with_entry product_key (plain_product good amount) r.products))
    (FoundSame book.game.recipes recipe.0 (λ r. r.products) (λ r. with_entry product_key (plain_product good amount) r.products))
unfolding products_set
products_set_means book recipe good amount =
    let get : Recipe → List Product = λ r. r.products in
    let change : Recipe → List Product = λ r. with_entry product_key (plain_product good amount) r.products in
    let P : List Product → Type 0 = FoundAnother book.game.recipes recipe.0 get change in
    let Q : Type 0 = FoundSame book.game.recipes recipe.0 get change in
    means_known (slice_get book.game.recipes recipe.0) _ P Q (λ old e.
    means_below (length book.game.items + length book.game.fluids) good.0 _ P Q (
    means_positive amount _ P Q (
    found book.game.recipes recipe.0 get change old _ e
    (means_list (same_lists is_product (change old) (get old)) (nat_lt 1024 (length (change old))) (get old) (change old) (Decides-lists is_product Decides-product (change old) (get old))))))

products_dropped_means : (book : Book) (recipe : RecipeId) (good : GoodId)
    → Means (products_dropped book recipe good) (FoundAnother book.game.recipes recipe.0 (λ r. r.products) (λ r. without product_key good.0 r.products))
    (FoundSame book.game.recipes recipe.0 (λ r. r.products) (λ r. without product_key good.0 r.products))
unfolding products_dropped
products_dropped_means book recipe good =
    let get : Recipe → List Product = λ r. r.products in
    let change : Recipe → List Product = λ r. without product_key good.0 r.products in
    let P : List Product → Type 0 = FoundAnother book.game.recipes recipe.0 get change in
    let Q : Type 0 = FoundSame book.game.recipes recipe.0 get change in
    means_known (slice_get book.game.recipes recipe.0) _ P Q (λ old e.
    means_below (length book.game.items + length book.game.fluids) good.0 _ P Q (
    found book.game.recipes recipe.0 get change old _ e
    (means_list (same_lists is_product (change old) (get old)) (nat_lt 1024 (length (change old))) (get old) (change old) (Decides-lists is_product Decides-product (change old) (get old)))))

unlocks_set_means : (book : Book) (tech : TechId) (recipe : RecipeId) (on : Bool)
    → Means (unlocks_set book tech recipe on) (FoundAnother book.game.techs tech.0 (λ t. t.unlocks) (λ t. unlocks_switched recipe on t.unlocks))
    (FoundSame book.game.techs tech.0 (λ t. t.unlocks) (λ t. unlocks_switched recipe on t.unlocks))
unfolding unlocks_set
unlocks_set_means book tech recipe on =
    let get : Tech → List RecipeId = λ t. t.unlocks in
    let change : Tech → List RecipeId = λ t. unlocks_switched recipe on t.unlocks in
    let P : List RecipeId → Type 0 = FoundAnother book.game.techs tech.0 get change in
    let Q : Type 0 = FoundSame book.game.techs tech.0 get change in
    means_known (slice_get book.game.techs tech.0) _ P Q (λ old e.
    means_known (slice_get book.game.recipes recipe.0) _ P Q (λ _ h.
    found book.game.techs tech.0 get change old _ e
    (means_list (same_lists is_unlock (change old) (get old)) (nat_lt 1024 (length (change old))) (get old) (change old) (Decides-lists is_unlock Decides-unlock (change old) (get old)))))

time_set_means : (book : Book) (recipe : RecipeId) (time : Fraction)
    → Means (time_set book recipe time) (FoundAnother book.game.recipes recipe.0 (λ r. r.time) (λ r. time)) (FoundSame book.game.recipes recipe.0 (λ r. r.time) (λ r. time))
unfolding time_set
time_set_means book recipe time =
    let get : Recipe → Fraction = λ r. r.time in
    let change : Recipe → Fraction = λ r. time in
    let P : Fraction → Type 0 = FoundAnother book.game.recipes recipe.0 get change in
    let Q : Type 0 = FoundSame book.game.recipes recipe.0 get change in
    means_known (slice_get book.game.recipes recipe.0) _ P Q (λ old e.
    means_positive time _ P Q (
    found book.game.recipes recipe.0 get change old _ e (means_value (is_fraction time (get old)) (get old) time (Decides-fraction time (get old)))))

enabled_set_means : (book : Book) (recipe : RecipeId) (on : Bool)
    → Means (enabled_set book recipe on) (FoundAnother book.game.recipes recipe.0 (λ r. r.enabled) (λ r. on)) (FoundSame book.game.recipes recipe.0 (λ r. r.enabled) (λ r. on))
unfolding enabled_set
enabled_set_means book recipe on =
    let get : Recipe → Bool = λ r. r.enabled in
    let change : Recipe → Bool = λ r. on in
    means_known (slice_get book.game.recipes recipe.0) _ (FoundAnother book.game.recipes recipe.0 get change) (FoundSame book.game.recipes recipe.0 get change) (λ old e.
    found book.game.recipes recipe.0 get change old _ e (means_flag (get old) on))

mark_set_means : (marks : List Bool) (node : NodeId) (on : Bool) → Means (mark_set marks node on) (FoundAnother marks node.0 (λ old. old) (λ old. on)) (FoundSame marks node.0 (λ old. old) (λ old. on))
unfolding mark_set
mark_set_means marks node on =
    let get : Bool → Bool = λ old. old in
    let change : Bool → Bool = λ old. on in
    means_known (slice_get marks node.0) _ (FoundAnother marks node.0 get change) (FoundSame marks node.0 get change) (λ old e.
    found marks node.0 get change old _ e (means_flag old on))

barred_law : (book : Book) (node : NodeId) (on : Bool) → Law ((mark_set book.barred node on ▸ λ on. Ok (Barred node on)) ▸ λ part. Ok (restored part book)) (record book { barred = with_at (λ old. on) node.0 book.barred }) book
barred_law book node on =
    part_law book (λ b. b.barred) (with_barred book) (λ ys. refl) refl node.0 (λ old. old) with_mark (λ a x. refl) (λ x. refl) (λ on. Barred node on) (λ a. refl) (λ old. on)
    (mark_set book.barred node on) (mark_set_means book.barred node on)

granted_law : (book : Book) (node : NodeId) (on : Bool) → Law ((mark_set book.granted node on ▸ λ on. Ok (Granted node on)) ▸ λ part. Ok (restored part book)) (record book { granted = with_at (λ old. on) node.0 book.granted }) book
granted_law book node on =
    part_law book (λ b. b.granted) (with_granted book) (λ ys. refl) refl node.0 (λ old. old) with_mark (λ a x. refl) (λ x. refl) (λ on. Granted node on) (λ a. refl) (λ old. on)
    (mark_set book.granted node on) (mark_set_means book.granted node on)

pub effect_law : (edit : Edit) (book : Book) → Law (effect edit book) (carried_out edit book) book
unfolding effect
effect_law (SetIngredient recipe good amount) book =
    part_law book (λ b. b.game.recipes) (with_recipes book) (λ ys. refl) refl recipe.0 (λ r. r.ingredients) (λ list. with_recipe_part (Ingredients list)) (λ a x. refl) (λ x. refl)
    (λ list. OfRecipe recipe (Ingredients list)) (λ a. refl) (λ r. with_entry part_key (plain_part good amount) r.ingredients)
    (ingredients_set book recipe good amount) (ingredients_set_means book recipe good amount)
effect_law (DropIngredient recipe good) book =
    part_law book (λ b. b.game.recipes) (with_recipes book) (λ ys. refl) refl recipe.0 (λ r. r.ingredients) (λ list. with_recipe_part (Ingredients list)) (λ a x. refl) (λ x. refl)
    (λ list. OfRecipe recipe (Ingredients list)) (λ a. refl) (λ r. without part_key good.0 r.ingredients)
    (ingredients_dropped book recipe good) (ingredients_dropped_means book recipe good)
effect_law (SetProduct recipe good amount) book =
    part_law book (λ b. b.game.recipes) (with_recipes book) (λ ys. refl) refl recipe.0 (λ r. r.products) (λ list. with_recipe_part (Products list)) (λ a x. refl) (λ x. refl)
    (λ list. OfRecipe recipe (Products list)) (λ a. refl) (λ r. with_entry product_key (plain_product good amount) r.products)
    (products_set book recipe good amount) (products_set_means book recipe good amount)
effect_law (DropProduct recipe good) book =
    part_law book (λ b. b.game.recipes) (with_recipes book) (λ ys. refl) refl recipe.0 (λ r. r.products) (λ list. with_recipe_part (Products list)) (λ a x. refl) (λ x. refl)
    (λ list. OfRecipe recipe (Products list)) (λ a. refl) (λ r. without product_key good.0 r.products)
    (products_dropped book recipe good) (products_dropped_means book recipe good)
effect_law (SetUnlock tech recipe on) book =
    part_law book (λ b. b.game.techs) (with_techs book) (λ ys. refl) refl tech.0 (λ t. t.unlocks) with_unlocks (λ a x. refl) (λ x. refl)
    (λ list. Unlocks tech list) (λ a. refl) (λ t. unlocks_switched recipe on t.unlocks)
    (unlocks_set book tech recipe on) (unlocks_set_means book tech recipe on)
effect_law (SetTime recipe time) book =
    part_law book (λ b. b.game.recipes) (with_recipes book) (λ ys. refl) refl recipe.0 (λ r. r.time) (λ time. with_recipe_part (Time time)) (λ a x. refl) (λ x. refl)
    (λ time. OfRecipe recipe (Time time)) (λ a. refl) (λ r. time) (time_set book recipe time) (time_set_means book recipe time)
effect_law (SetEnabled recipe on) book =
    part_law book (λ b. b.game.recipes) (with_recipes book) (λ ys. refl) refl recipe.0 (λ r. r.enabled) (λ on. with_recipe_part (Enabled on)) (λ a x. refl) (λ x. refl)
    (λ on. OfRecipe recipe (Enabled on)) (λ a. refl) (λ r. on) (enabled_set book recipe on) (enabled_set_means book recipe on)
effect_law (Forbid node) book = barred_law book node true
effect_law (Permit node) book = barred_law book node false
effect_law (Grant node) book = granted_law book node true
effect_law (Revoke node) book = granted_law book node false
