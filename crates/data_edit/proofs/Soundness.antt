-- An edit of a sound book leaves a sound book.
use Rattle.std.proofs.Common.{◌≡◌, ℕ, ◌+◌, ◌<◌, ◌≤◌, ◌==◌, Bool, true, false, not, List, [], ◌∷◌, ◌++◌, Option, Some, None, Result, Ok, Err, length, refl, sym, ap, ◌∙◌, subst, nat_lt, filter}
use Rattle.std.specs.Prelude.{IfSome, All, slice_get}
use Rattle.std.proofs.lemmas.List.Elements.{All-nil, All-cons, All-head, All-tail, All-set, All-push, All-filter, All-weaker, All-get_or}
use Rattle.fractions.specs.Fraction.{Fraction}
use Rattle.plan_base.specs.Shape.{node_count}
use Rattle.plan_base.specs.declared.GoodId.{GoodId}
use Rattle.plan_base.specs.declared.RecipeId.{RecipeId}
use Rattle.plan_base.specs.declared.TechId.{TechId}
use Rattle.game_types.specs.Nodes.{node_limit, shape_of}
use Rattle.game_types.specs.Sound.{IsGood, IsSound, IsSoundItem, IsSoundModule, IsSoundRecipe, IsSoundSource, IsSoundKind, IsSoundEnergy, IsSoundMachine, IsSoundTech}
use Rattle.game_types.specs.declared.games.Game.{Game}
use Rattle.game_types.specs.declared.goods.Item.{Item}
use Rattle.game_types.specs.declared.goods.Module.{Module}
use Rattle.game_types.specs.declared.machinery.Machine.{Machine}
use Rattle.game_types.specs.declared.machinery.MachineKind.{MachineKind}
use Rattle.game_types.specs.declared.machinery.MachineKind.TheVariants.{Crafter, Drill, Pump, Boiler, Generator, BurnerGenerator, Solar, Reactor, Lab, Beacon}
use Rattle.game_types.specs.declared.machinery.Energy.{Energy}
use Rattle.game_types.specs.declared.machinery.Energy.TheVariants.{Electric, Burner, Heat, Fluid, Void}
use Rattle.game_types.specs.declared.recipes.Part.{Part}
use Rattle.game_types.specs.declared.recipes.Product.{Product}
use Rattle.game_types.specs.declared.recipes.Recipe.{Recipe}
use Rattle.game_types.specs.declared.recipes.Source.{Source}
use Rattle.game_types.specs.declared.research.Tech.{Tech}
use Rattle.data_edit.specs.declared.books.Book.{Book}
use Rattle.data_edit.specs.Books.{IsSoundBook}
use Rattle.std.proofs.lemmas.Option.{get_or_from_slice_get, slice_get_within}
use Rattle.std.specs.Prelude.{if◌then◌else◌}
use borrow.Author.Tests.{ltb-true}
use Rattle.data_edit.specs.declared.edits.Edit.{Edit}
use Rattle.data_edit.specs.declared.edits.Edit.TheVariants.{SetIngredient, DropIngredient, SetProduct, DropProduct, SetUnlock, SetTime, SetEnabled, Forbid, Permit, Grant, Revoke}
use Rattle.data_edit.specs.declared.edits.EditFault.{EditFault}
use Rattle.data_edit.specs.declared.edits.EditFault.TheVariants.{Unknown, NoChange, Limit}
use Rattle.data_edit.specs.declared.parts.RecipePart.{RecipePart}
use Rattle.data_edit.specs.declared.parts.RecipePart.TheVariants.{Ingredients, Products, Time, Enabled}
use Rattle.data_edit.specs.declared.parts.Inverse.{Inverse}
use Rattle.data_edit.specs.declared.parts.Inverse.TheVariants.{Recipe as OfRecipe, Unlocks, Barred, Granted}
use Rattle.data_edit.specs.Lists.{part_key, product_key, unlock_key, is_part, is_product, is_unlock, plain_part, plain_product, same_lists, with_entry, with_unlock, without}
use Rattle.data_edit.specs.Faults.{◌▸◌, known, known_below, positive, changed_list}
use Rattle.data_edit.specs.Edits.{with_recipe_part, with_unlocks, with_mark, restored, recipe_in, tech_in, good_in, ingredients_set, ingredients_dropped, products_set, products_dropped, unlocks_switched, unlocks_set, time_set, enabled_set, mark_set, replacement}
use Rattle.plan_base.specs.Places.{changed_at, with_at}
use Rattle.plan_base.proofs.Places.{length-with_at}
use Rattle.game_types.specs.Fitting.{names_recipe}

-- ---- another list of recipes and of technologies, each as long as before
abbrev pub changed_game : Game → List Recipe → List Tech → Game
changed_game g recipes techs = record g { recipes = recipes; techs = techs }

if_some : {A : Type 0} (P Q : A → Type 0) → ((x : A) → P x → Q x) → (o : Option A) → IfSome o P → IfSome o Q
if_some P Q f None h = h
if_some P Q f (Some x) h = f x h

-- what names recipes of one list names recipes of another as long
module _ (g : Game) (recipes : List Recipe) (techs : List Tech) (same : length g.recipes ≡ length recipes) (same_techs : length g.techs ≡ length techs) where
  below : (n : ℕ) → n < length g.recipes → n < length recipes
  below n h = subst (λ (m : ℕ). n < m) same h

  below_techs : (n : ℕ) → n < length g.techs → n < length techs
  below_techs n h = subst (λ (m : ℕ). n < m) same_techs h

  of_module : (m : Module) → IsSoundModule g m → IsSoundModule (changed_game g recipes techs) m
  of_module m h = record {
    bonus = h.bonus;
    limitation = All-weaker (λ (r : RecipeId). r.0 < length g.recipes) (λ (r : RecipeId). r.0 < length recipes) (λ r. below r.0) m.limitation h.limitation;
    blacklist = All-weaker (λ (r : RecipeId). r.0 < length g.recipes) (λ (r : RecipeId). r.0 < length recipes) (λ r. below r.0) m.blacklist h.blacklist;
  }

  of_item : (item : Item) → IsSoundItem g item → IsSoundItem (changed_game g recipes techs) item
  of_item item h = record {
    place = h.place;
    burnt = h.burnt;
    module_ = if_some (IsSoundModule g) (IsSoundModule (changed_game g recipes techs)) of_module item.module h.module_;
    launch = h.launch;
  }

  of_recipe : (recipe : Recipe) → IsSoundRecipe g recipe → IsSoundRecipe (changed_game g recipes techs) recipe
  of_recipe recipe h = record { ingredients = h.ingredients; products = h.products; launch = h.launch }

  of_source : (source : Source) → IsSoundSource g source → IsSoundSource (changed_game g recipes techs) source
  of_source source h = record { products = h.products; fluid = h.fluid }

  of_kind : (kind : MachineKind) → IsSoundKind g kind → IsSoundKind (changed_game g recipes techs) kind
  of_kind (Crafter speed categories fixed) h = (h.0, if_some (λ (r : RecipeId). r.0 < length g.recipes) (λ (r : RecipeId). r.0 < length recipes) (λ r. below r.0) fixed h.1)
  of_kind (Drill speed categories fluid_box) h = h
  of_kind (Pump fluid speed) h = h
  of_kind (Boiler input output temperature) h = h
  of_kind (Generator input effectivity per_tick max_temperature burns output) h = h
  of_kind (BurnerGenerator output) h = h
  of_kind (Solar production) h = h
  of_kind Reactor h = h
  of_kind (Lab inputs speed) h = h
  of_kind (Beacon effectivity) h = h

  of_energy : (energy : Energy) → IsSoundEnergy g energy → IsSoundEnergy (changed_game g recipes techs) energy
  of_energy Electric h = h
  of_energy (Burner categories effectivity) h = h
  of_energy Heat h = h
  of_energy (Fluid filter effectivity) h = h
  of_energy Void h = h

  of_machine : (machine : Machine) → IsSoundMachine g machine → IsSoundMachine (changed_game g recipes techs) machine
  of_machine machine h = record {
    kind = of_kind machine.kind h.kind;
    energy = of_energy machine.energy h.energy;
    burning = h.burning;
    slots = h.slots;
  }

  of_tech : (tech : Tech) → IsSoundTech g tech → IsSoundTech (changed_game g recipes techs) tech
  of_tech tech h = record {
    prerequisites = All-weaker (λ (t : TechId). t.0 < length g.techs) (λ (t : TechId). t.0 < length techs) (λ t. below_techs t.0) tech.prerequisites h.prerequisites;
    unlocks = All-weaker (λ (r : RecipeId). r.0 < length g.recipes) (λ (r : RecipeId). r.0 < length recipes) (λ r. below r.0) tech.unlocks h.unlocks;
    ingredients = h.ingredients;
  }

  nodes_same : node_count (shape_of (changed_game g recipes techs)) ≡ node_count (shape_of g)
  nodes_same =
      ap (λ (n : ℕ). 3 + length g.items + length g.fluids + n + length g.sources + length g.machines + length techs) (sym same)
      ∙ ap (λ (n : ℕ). 3 + length g.items + length g.fluids + length g.recipes + length g.sources + length g.machines + n) (sym same_techs)

  game_sound : IsSound g → All (IsSoundRecipe g) recipes → All (IsSoundTech g) techs → IsSound (changed_game g recipes techs)
  game_sound h recipes_sound techs_sound = record {
    item_names = h.item_names;
    fluid_names = h.fluid_names;
    recipe_names = h.recipe_names ∙ same;
    source_names = h.source_names;
    machine_names = h.machine_names;
    tech_names = h.tech_names ∙ same_techs;
    nodes = subst (λ (n : ℕ). n ≤ node_limit) (sym nodes_same) h.nodes;
    items = All-weaker (IsSoundItem g) (IsSoundItem (changed_game g recipes techs)) of_item g.items h.items;
    fluids = h.fluids;
    apart = h.apart;
    recipes = All-weaker (IsSoundRecipe g) (IsSoundRecipe (changed_game g recipes techs)) of_recipe recipes recipes_sound;
    sources = All-weaker (IsSoundSource g) (IsSoundSource (changed_game g recipes techs)) of_source g.sources h.sources;
    machines = All-weaker (IsSoundMachine g) (IsSoundMachine (changed_game g recipes techs)) of_machine g.machines h.machines;
    techs = All-weaker (IsSoundTech g) (IsSoundTech (changed_game g recipes techs)) of_tech techs techs_sound;
  }

  pub book_sound : (book : Book) → book.game ≡ g → IsSoundBook book → All (IsSoundRecipe g) recipes → All (IsSoundTech g) techs → IsSoundBook (record book { game = changed_game g recipes techs })
  book_sound book e h recipes_sound techs_sound = record {
    game = game_sound (subst IsSound e h.game) recipes_sound techs_sound;
    barred = h.barred ∙ ap (λ (game : Game). node_count (shape_of game)) e ∙ sym nodes_same;
    granted = h.granted ∙ ap (λ (game : Game). node_count (shape_of game)) e ∙ sym nodes_same;
  }

-- ---- steps that may be refused
pub bind_ok : {A B : Type 0} (first : Result A EditFault) (next : A → Result B EditFault) (y : B) → (first ▸ next) ≡ Ok y → (x : A) × (first ≡ Ok x) × (next x ≡ Ok y)
bind_ok (Ok x) next y e = (x, refl, e)
bind_ok (Err fault) next y e = absurd cc

pub known_ok : {A : Type 0} (found : Option A) (x : A) → known found ≡ Ok x → found ≡ Some x
known_ok None x e = absurd cc
known_ok (Some y) x e = cc

test_ok : (b : Bool) (x : Unit {0}) → (if b then Ok tt else Err Unknown) ≡ Ok x → b ≡ true
test_ok true x e = refl
test_ok false x e = absurd cc

below_ok : (count number : ℕ) (x : Unit {0}) → known_below count number ≡ Ok x → number < count
below_ok count number x e = ltb-true number count (test_ok (nat_lt number count) x e)

chosen : {A : Type 0} (a b : Bool) (list new : A) → (if a then Err NoChange else if b then Err Limit else Ok list) ≡ Ok new → list ≡ new
chosen true b list new e = absurd cc
chosen false true list new e = absurd cc
chosen false false list new e = cc

pub changed_ok : {E : Type 0} (same : E → E → Bool) (old list new : List E) → changed_list same old list ≡ Ok new → list ≡ new
changed_ok same old list new e = chosen (same_lists same list old) (nat_lt 1024 (length list)) list new e

-- what is found is among what is sound
found_sound : {A : Type 0} (P : A → Type 0) (xs : List A) (place : ℕ) (x : A) → slice_get xs place ≡ Some x → All P xs → P x
found_sound P xs place x e all = subst P (get_or_from_slice_get xs place x x e) (All-get_or P xs place x (slice_get_within xs place x e) all)

-- ---- lists of entries
All-without : {E : Type 0} (P : E → Type 0) (key : E → ℕ) (number : ℕ) (xs : List E) → All P xs → All P (without key number xs)
All-without P key number xs all = All-filter (λ entry. not (key entry == number)) P xs all

All-with_entry : {E : Type 0} (P : E → Type 0) (key : E → ℕ) (entry : E) (xs : List E) → P entry → All P xs → All P (with_entry key entry xs)
All-with_entry P key entry [] h all = All-cons P entry [] h (All-nil P)
All-with_entry P key entry (x ∷ xs) h all =
    elim (key x == key entry) as (λ b. All P (if b then entry ∷ without key (key entry) xs else x ∷ with_entry key entry xs)) [
      | true ↦ All-cons P entry _ h (All-without P key (key entry) xs (All-tail P x xs all))
      | false ↦ All-cons P x _ (All-head P x xs all) (All-with_entry P key entry xs h (All-tail P x xs all))
    ]

All-with_unlock : (P : RecipeId → Type 0) (recipe : RecipeId) (xs : List RecipeId) → P recipe → All P xs → All P (with_unlock recipe xs)
All-with_unlock P recipe xs h all =
    elim (names_recipe xs recipe) as (λ b. All P (if b then xs else xs ++ recipe ∷ [])) [ true ↦ all | false ↦ All-push P xs recipe all h ]

All-switched : (P : RecipeId → Type 0) (recipe : RecipeId) (on : Bool) (xs : List RecipeId) → P recipe → All P xs → All P (unlocks_switched recipe on xs)
All-switched P recipe true xs h all = All-with_unlock P recipe xs h all
All-switched P recipe false xs h all = All-without P unlock_key recipe.0 xs all

-- ---- a part that fits a book
abbrev pub IsSoundPart : Inverse → Book → Type 0
IsSoundPart (OfRecipe recipe (Ingredients list)) book = All (λ part. IsGood book.game part.good.0) list
IsSoundPart (OfRecipe recipe (Products list)) book = All (λ product. IsGood book.game product.good.0) list
IsSoundPart (OfRecipe recipe (Time time)) book = Unit {0}
IsSoundPart (OfRecipe recipe (Enabled on)) book = Unit {0}
IsSoundPart (Unlocks tech list) book = All (λ recipe. recipe.0 < length book.game.recipes) list
IsSoundPart (Barred node on) book = Unit {0}
IsSoundPart (Granted node on) book = Unit {0}

All-with_at : {A : Type 0} (P : A → Type 0) (f : A → A) (place : ℕ) (xs : List A) → ((x : A) → P x → P (f x)) → All P xs → All P (with_at f place xs)
unfolding with_at
All-with_at P f place xs keeps all = changed (slice_get xs place) refl
  where
    changed : (found : Option _) → slice_get xs place ≡ found → All P (changed_at f place xs found)
    changed None e = all
    changed (Some x) e = All-set P xs place (f x) (keeps x (found_sound P xs place x e all)) all

recipe_keeps : (book : Book) (recipe : RecipeId) (part : RecipePart) → IsSoundPart (OfRecipe recipe part) book → (r : Recipe) → IsSoundRecipe book.game r → IsSoundRecipe book.game (with_recipe_part part r)
recipe_keeps book recipe (Ingredients list) h r s = record { ingredients = h; products = s.products; launch = s.launch }
recipe_keeps book recipe (Products list) h r s = record { ingredients = s.ingredients; products = h; launch = s.launch }
recipe_keeps book recipe (Time time) h r s = record { ingredients = s.ingredients; products = s.products; launch = s.launch }
recipe_keeps book recipe (Enabled on) h r s = record { ingredients = s.ingredients; products = s.products; launch = s.launch }

pub restored_sound : (part : Inverse) (book : Book) → IsSoundPart part book → IsSoundBook book → IsSoundBook (restored part book)
restored_sound (OfRecipe recipe part) book h s =
    book_sound book.game (with_at (with_recipe_part part) recipe.0 book.game.recipes) book.game.techs
    (sym (length-with_at (with_recipe_part part) recipe.0 book.game.recipes)) refl book refl s
    (All-with_at (IsSoundRecipe book.game) (with_recipe_part part) recipe.0 book.game.recipes (recipe_keeps book recipe part h) s.game.recipes) s.game.techs
restored_sound (Unlocks tech list) book h s =
    book_sound book.game book.game.recipes (with_at (with_unlocks list) tech.0 book.game.techs)
    refl (sym (length-with_at (with_unlocks list) tech.0 book.game.techs)) book refl s s.game.recipes
    (All-with_at (IsSoundTech book.game) (with_unlocks list) tech.0 book.game.techs (λ t u. record { prerequisites = u.prerequisites; unlocks = h; ingredients = u.ingredients }) s.game.techs)
restored_sound (Barred node on) book h s = record { game = s.game; barred = length-with_at (with_mark on) node.0 book.barred ∙ s.barred; granted = s.granted }
restored_sound (Granted node on) book h s = record { game = s.game; barred = s.barred; granted = length-with_at (with_mark on) node.0 book.granted ∙ s.granted }

-- ---- the lists that edits make
recipe_found : (book : Book) (recipe : RecipeId) (old : Recipe) → IsSoundBook book → recipe_in book recipe ≡ Ok old → IsSoundRecipe book.game old
recipe_found book recipe old s e = found_sound (IsSoundRecipe book.game) book.game.recipes recipe.0 old (known_ok (slice_get book.game.recipes recipe.0) old e) s.game.recipes

ingredients_set_sound : (book : Book) (recipe : RecipeId) (good : GoodId) (amount : Fraction) (list : List Part) → IsSoundBook book
    → ingredients_set book recipe good amount ≡ Ok list → All (λ part. IsGood book.game part.good.0) list
unfolding ingredients_set
ingredients_set_sound book recipe good amount list s e =
    let found = bind_ok (recipe_in book recipe) _ list e in
    let named = bind_ok (good_in book good) _ list found.2 in
    let passed = bind_ok (positive amount) _ list named.2 in
    let old : IsSoundRecipe book.game found.0 = recipe_found book recipe found.0 s found.1 in
    let good_is : IsGood book.game good.0 = below_ok (length book.game.items + length book.game.fluids) good.0 named.0 named.1 in
    subst (All (λ part. IsGood book.game part.good.0)) (changed_ok is_part found.0.ingredients (with_entry part_key (plain_part good amount) found.0.ingredients) list passed.2)
    (All-with_entry (λ part. IsGood book.game part.good.0) part_key (plain_part good amount) found.0.ingredients good_is old.ingredients)

ingredients_dropped_sound : (book : Book) (recipe : RecipeId) (good : GoodId) (list : List Part) → IsSoundBook book
    → ingredients_dropped book recipe good ≡ Ok list → All (λ part. IsGood book.game part.good.0) list
unfolding ingredients_dropped
ingredients_dropped_sound book recipe good list s e =
    let found = bind_ok (recipe_in book recipe) _ list e in
    let named = bind_ok (good_in book good) _ list found.2 in
    let old : IsSoundRecipe book.game found.0 = recipe_found book recipe found.0 s found.1 in
    subst (All (λ part. IsGood book.game part.good.0)) (changed_ok is_part found.0.ingredients (without part_key good.0 found.0.ingredients) list named.2)
    (All-without (λ part. IsGood book.game part.good.0) part_key good.0 found.0.ingredients old.ingredients)

products_set_sound : (book : Book) (recipe : RecipeId) (good : GoodId) (amount : Fraction) (list : List Product) → IsSoundBook book
    → products_set book recipe good amount ≡ Ok list → All (λ product. IsGood book.game product.good.0) list
unfolding products_set
products_set_sound book recipe good amount list s e =
    let found = bind_ok (recipe_in book recipe) _ list e in
    let named = bind_ok (good_in book good) _ list found.2 in
    let passed = bind_ok (positive amount) _ list named.2 in
    let old : IsSoundRecipe book.game found.0 = recipe_found book recipe found.0 s found.1 in
    let good_is : IsGood book.game good.0 = below_ok (length book.game.items + length book.game.fluids) good.0 named.0 named.1 in
    subst (All (λ product. IsGood book.game product.good.0)) (changed_ok is_product found.0.products (with_entry product_key (plain_product good amount) found.0.products) list passed.2)
    (All-with_entry (λ product. IsGood book.game product.good.0) product_key (plain_product good amount) found.0.products good_is old.products)

products_dropped_sound : (book : Book) (recipe : RecipeId) (good : GoodId) (list : List Product) → IsSoundBook book
    → products_dropped book recipe good ≡ Ok list → All (λ product. IsGood book.game product.good.0) list
unfolding products_dropped
products_dropped_sound book recipe good list s e =
    let found = bind_ok (recipe_in book recipe) _ list e in
    let named = bind_ok (good_in book good) _ list found.2 in
    let old : IsSoundRecipe book.game found.0 = recipe_found book recipe found.0 s found.1 in
    subst (All (λ product. IsGood book.game product.good.0)) (changed_ok is_product found.0.products (without product_key good.0 found.0.products) list named.2)
    (All-without (λ product. IsGood book.game product.good.0) product_key good.0 found.0.products old.products)

unlocks_set_sound : (book : Book) (tech : TechId) (recipe : RecipeId) (on : Bool) (list : List RecipeId) → IsSoundBook book
    → unlocks_set book tech recipe on ≡ Ok list → All (λ r. r.0 < length book.game.recipes) list
unfolding unlocks_set
unlocks_set_sound book tech recipe on list s e =
    let found = bind_ok (tech_in book tech) _ list e in
    let named = bind_ok (recipe_in book recipe) _ list found.2 in
    let old : IsSoundTech book.game found.0 = found_sound (IsSoundTech book.game) book.game.techs tech.0 found.0 (known_ok (slice_get book.game.techs tech.0) found.0 found.1) s.game.techs in
    let known_recipe : recipe.0 < length book.game.recipes = slice_get_within book.game.recipes recipe.0 named.0 (known_ok (slice_get book.game.recipes recipe.0) named.0 named.1) in
    subst (All (λ r. r.0 < length book.game.recipes)) (changed_ok is_unlock found.0.unlocks (unlocks_switched recipe on found.0.unlocks) list named.2)
    (All-switched (λ r. r.0 < length book.game.recipes) recipe on found.0.unlocks known_recipe old.unlocks)

-- what an outcome gives has what each of its values gives
made : {A : Type 0} (make : A → Inverse) (book : Book) (first : Result A EditFault) (part : Inverse) → ((x : A) → first ≡ Ok x → IsSoundPart (make x) book)
    → (first ▸ λ x. Ok (make x)) ≡ Ok part → IsSoundPart part book
made make book (Ok x) part sound e =
    let same : make x ≡ part = cc in
    subst (λ p. IsSoundPart p book) same (sound x refl)
made make book (Err fault) part sound e = absurd cc

pub replacement_sound : (edit : Edit) (book : Book) (part : Inverse) → IsSoundBook book → replacement edit book ≡ Ok part → IsSoundPart part book
replacement_sound (SetIngredient recipe good amount) book part s e =
    made (λ list. OfRecipe recipe (Ingredients list)) book (ingredients_set book recipe good amount) part (λ list h. ingredients_set_sound book recipe good amount list s h) e
replacement_sound (DropIngredient recipe good) book part s e =
    made (λ list. OfRecipe recipe (Ingredients list)) book (ingredients_dropped book recipe good) part (λ list h. ingredients_dropped_sound book recipe good list s h) e
replacement_sound (SetProduct recipe good amount) book part s e =
    made (λ list. OfRecipe recipe (Products list)) book (products_set book recipe good amount) part (λ list h. products_set_sound book recipe good amount list s h) e
replacement_sound (DropProduct recipe good) book part s e =
    made (λ list. OfRecipe recipe (Products list)) book (products_dropped book recipe good) part (λ list h. products_dropped_sound book recipe good list s h) e
replacement_sound (SetUnlock tech recipe on) book part s e =
    made (λ list. Unlocks tech list) book (unlocks_set book tech recipe on) part (λ list h. unlocks_set_sound book tech recipe on list s h) e
replacement_sound (SetTime recipe time) book part s e = made (λ time. OfRecipe recipe (Time time)) book (time_set book recipe time) part (λ time h. tt) e
replacement_sound (SetEnabled recipe on) book part s e = made (λ on. OfRecipe recipe (Enabled on)) book (enabled_set book recipe on) part (λ on h. tt) e
replacement_sound (Forbid node) book part s e = made (λ on. Barred node on) book (mark_set book.barred node true) part (λ on h. tt) e
replacement_sound (Permit node) book part s e = made (λ on. Barred node on) book (mark_set book.barred node false) part (λ on h. tt) e
replacement_sound (Grant node) book part s e = made (λ on. Granted node on) book (mark_set book.granted node true) part (λ on h. tt) e
replacement_sound (Revoke node) book part s e = made (λ on. Granted node on) book (mark_set book.granted node false) part (λ on h. tt) e

-- an accepted edit of a sound book
pub edit_sound : (edit : Edit) (book : Book) (part : Inverse) → IsSoundBook book → replacement edit book ≡ Ok part → IsSoundBook (restored part book)
edit_sound edit book part s e = restored_sound part book (replacement_sound edit book part s e) s
