-- Lists of ingredients, of products and of unlocked recipes, and how an edit changes them. The rules are this project's own.
use Rattle.std.specs.Prelude.{ℕ, ◌==◌, ◌&&◌, Bool, true, false, not, pos, List, [], ◌∷◌, ◌++◌, Option, Some, None, filter, if◌then◌else◌}
use Rattle.std.specs.Ordering.{int_eq}
use Rattle.fractions.specs.Fraction.{Fraction, zero_fraction, one_fraction}
use Rattle.plan_base.specs.declared.GoodId.{GoodId}
use Rattle.plan_base.specs.declared.RecipeId.{RecipeId}
use Rattle.game_types.specs.declared.recipes.Part.{Part}
use Rattle.game_types.specs.declared.recipes.Product.{Product}
use Rattle.game_types.specs.Fitting.{names_recipe}

-- ---- lists whose entries have a key: the number of the good, or of the recipe, that they are about
-- the list without the entries of a key
abbrev pub without : {E : Type 0} → (E → ℕ) → ℕ → List E → List E
without key number entries = filter (λ entry. not (key entry == number)) entries

-- the list with an entry at the place of the first one of its key, or else at the end, and no other one of its key
abbrev pub with_entry : {E : Type 0} → (E → ℕ) → E → List E → List E
with_entry key entry [] = entry ∷ []
with_entry key entry (first ∷ rest) = if key first == key entry then entry ∷ without key (key entry) rest else first ∷ with_entry key entry rest

-- whether two lists are the same, by a test of their entries
abbrev pub same_lists : {E : Type 0} → (E → E → Bool) → List E → List E → Bool
same_lists same [] [] = true
same_lists same [] (y ∷ ys) = false
same_lists same (x ∷ xs) [] = false
same_lists same (x ∷ xs) (y ∷ ys) = same x y && same_lists same xs ys

-- ---- tests of sameness
abbrev pub is_fraction : Fraction → Fraction → Bool
is_fraction x y = int_eq x.num y.num && int_eq (pos x.den) (pos y.den)

abbrev pub is_bound : Option Fraction → Option Fraction → Bool
is_bound None None = true
is_bound None (Some y) = false
is_bound (Some x) None = false
is_bound (Some x) (Some y) = is_fraction x y

unfoldable pub is_part : Part → Part → Bool
is_part x y = (((x.good.0 == y.good.0) && is_fraction x.amount y.amount) && is_bound x.low y.low) && is_bound x.high y.high

unfoldable pub is_product : Product → Product → Bool
is_product x y = (((((x.good.0 == y.good.0) && is_fraction x.low y.low) && is_fraction x.high y.high) && is_fraction x.probability y.probability) && is_fraction x.catalyst y.catalyst) && is_bound x.temperature y.temperature

abbrev pub is_unlock : RecipeId → RecipeId → Bool
is_unlock x y = x.0 == y.0

-- ---- keys
abbrev pub part_key : Part → ℕ
part_key part = part.good.0

abbrev pub product_key : Product → ℕ
product_key product = product.good.0

abbrev pub unlock_key : RecipeId → ℕ
unlock_key recipe = recipe.0

-- ---- the entries that edits put
-- an ingredient at any temperature
abbrev pub plain_part : GoodId → Fraction → Part
plain_part good amount = record { good = good; amount = amount; low = None; high = None }

-- a product that is given always, that productivity adds to, and that has no temperature of its own
abbrev pub plain_product : GoodId → Fraction → Product
plain_product good amount = record { good = good; low = amount; high = amount; probability = one_fraction; catalyst = zero_fraction; temperature = None }

-- a recipe at the end of the unlocked ones, unless it is among them
abbrev pub with_unlock : RecipeId → List RecipeId → List RecipeId
with_unlock recipe unlocks = if names_recipe unlocks recipe then unlocks else unlocks ++ recipe ∷ []
