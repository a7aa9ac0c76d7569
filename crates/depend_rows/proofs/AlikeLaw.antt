-- An accepted edit leaves all of a game but what it names.
use Rattle.std.proofs.Common.{◌≡◌, ◌≢◌, ◌∙◌, ℕ, zero, suc, Bool, true, false, List, [], ◌∷◌, refl, ap, sym, arith}
use Rattle.std.specs.Prelude.{◌==◌, ◌||◌, ◌&&◌, Ok, slice_get}
use Rattle.std.specs.List.{list_any}
use Rattle.game_types.specs.Making.{expected_amount, gives}
use Rattle.fractions.specs.Signs.{is_positive}
use Rattle.game_types.specs.declared.recipes.Product.{Product}
use Rattle.game_types.specs.declared.recipes.Recipe.{Recipe}
use Rattle.game_types.specs.declared.research.Tech.{Tech}
use Rattle.data_edit.specs.CarriedOut.{carried_out}
use Rattle.data_edit.specs.Edits.{effect, unlocks_switched}
use Rattle.plan_base.specs.Places.{with_at}
use Rattle.plan_base.proofs.Places.{with_at-nil, with_at-suc, with_at-zero}
use Rattle.data_edit.specs.Lists.{part_key, plain_part, plain_product, product_key, with_entry, without}
use Rattle.data_edit.specs.declared.books.Book.{Book}
use Rattle.data_edit.specs.declared.edits.Edit.{Edit}
use Rattle.data_edit.specs.declared.edits.Edit.TheVariants.{SetIngredient, DropIngredient, SetProduct, DropProduct, SetUnlock, SetTime, SetEnabled, Forbid, Permit, Grant, Revoke}
use Rattle.data_edit.proofs.EffectLaw.{effect_law}
use Rattle.data_edit.proofs.GameKept.{edit_keeps_game}
use Rattle.graph_store.specs.Members.{passes}
use Rattle.depend_index.specs.Alike.{AlikeBut, is_of_product, is_of_unlock}
use Rattle.depend_rows.proofs.TouchLemmas.{any-with_entry, any-without, other_product, switched}

-- what is tested at a place, where the change doesn't show at that place
passes-with_at : {A : Type 0} (test : A → Bool) (f : A → A) (p n : ℕ) → (xs : List A) → (n ≡ p → (x : A) → test (f x) ≡ test x) → passes test (slice_get (with_at f p xs) n) ≡ passes test (slice_get xs n)
passes-with_at test f p n [] same = ap (λ l. passes test (slice_get l n)) (with_at-nil f p)
passes-with_at test f zero zero (x ∷ xs) same = ap (λ l. passes test (slice_get l zero)) (with_at-zero f x xs) ∙ same refl x
passes-with_at test f zero (suc n) (x ∷ xs) same = ap (λ l. passes test (slice_get l (suc n))) (with_at-zero f x xs)
passes-with_at test f (suc p) zero (x ∷ xs) same = ap (λ l. passes test (slice_get l zero)) (with_at-suc f p x xs)
passes-with_at test f (suc p) (suc n) (x ∷ xs) same = ap (λ l. passes test (slice_get l (suc n))) (with_at-suc f p x xs) ∙ passes-with_at test f p n xs (λ is. same (ap suc is))

-- a pair that isn't named, of which the first is, has another second
other_second : (a b c d : ℕ) → (((a == b) && (c == d)) || false) ≡ false → b ≡ a → d ≢ c
other_second a b c d unnamed first second =
    let same : (a == b) ≡ true = grind (arith, first) in
    let too : (c == d) ≡ true = grind (arith, second) in
    let impossible : true ≡ false = ap (λ p. (p && true) || false) (sym same) ∙ ap (λ q. ((a == b) && q) || false) (sym too) ∙ unnamed in
    cc

products_stay : (edit : Edit) (book : Book) (r x : ℕ) → list_any (is_of_product r x) (edit ∷ []) ≡ false
    → passes (λ (recipe : Recipe). gives recipe.products x) (slice_get (carried_out edit book).game.recipes r) ≡ passes (λ (recipe : Recipe). gives recipe.products x) (slice_get book.game.recipes r)
products_stay (SetIngredient recipe good amount) book r x unnamed =
    passes-with_at (λ (recipe : Recipe). gives recipe.products x) (λ old. record old { ingredients = with_entry part_key (plain_part good amount) old.ingredients }) recipe.0 r book.game.recipes (λ _ old. refl)
products_stay (DropIngredient recipe good) book r x unnamed =
    passes-with_at (λ (recipe : Recipe). gives recipe.products x) (λ old. record old { ingredients = without part_key good.0 old.ingredients }) recipe.0 r book.game.recipes (λ _ old. refl)
products_stay (SetProduct recipe good amount) book r x unnamed =
    passes-with_at (λ (recipe : Recipe). gives recipe.products x) (λ old. record old { products = with_entry product_key (plain_product good amount) old.products }) recipe.0 r book.game.recipes (λ is old.
    let other : x ≢ good.0 = other_second recipe.0 r good.0 x unnamed is in
    any-with_entry (λ (product : Product). (product.good.0 == x) && is_positive (expected_amount product)) product_key (plain_product good amount) (other_product good.0 x other (plain_product good amount) refl) (other_product good.0 x other) old.products)
products_stay (DropProduct recipe good) book r x unnamed =
    passes-with_at (λ (recipe : Recipe). gives recipe.products x) (λ old. record old { products = without product_key good.0 old.products }) recipe.0 r book.game.recipes (λ is old.
    let other : x ≢ good.0 = other_second recipe.0 r good.0 x unnamed is in
    any-without (λ (product : Product). (product.good.0 == x) && is_positive (expected_amount product)) product_key good.0 (other_product good.0 x other) old.products)
products_stay (SetUnlock tech recipe on) book r x unnamed = refl
products_stay (SetTime recipe time) book r x unnamed = passes-with_at (λ (recipe : Recipe). gives recipe.products x) (λ old. record old { time = time }) recipe.0 r book.game.recipes (λ _ old. refl)
products_stay (SetEnabled recipe on) book r x unnamed = passes-with_at (λ (recipe : Recipe). gives recipe.products x) (λ old. record old { enabled = on }) recipe.0 r book.game.recipes (λ _ old. refl)
products_stay (Forbid mark) book r x unnamed = refl
products_stay (Permit mark) book r x unnamed = refl
products_stay (Grant mark) book r x unnamed = refl
products_stay (Revoke mark) book r x unnamed = refl

unlocks_stay : (edit : Edit) (book : Book) (t r : ℕ) → list_any (is_of_unlock t r) (edit ∷ []) ≡ false
    → passes (λ (tech : Tech). list_any (λ u. u.0 == r) tech.unlocks) (slice_get (carried_out edit book).game.techs t) ≡ passes (λ (tech : Tech). list_any (λ u. u.0 == r) tech.unlocks) (slice_get book.game.techs t)
unlocks_stay (SetUnlock tech recipe on) book t r unnamed =
    passes-with_at (λ (tech : Tech). list_any (λ u. u.0 == r) tech.unlocks) (λ old. record old { unlocks = unlocks_switched recipe on old.unlocks }) tech.0 t book.game.techs
    (λ is old. switched recipe r (other_second tech.0 t recipe.0 r unnamed is) on old.unlocks)
unlocks_stay (SetIngredient recipe good amount) book t r unnamed = refl
unlocks_stay (DropIngredient recipe good) book t r unnamed = refl
unlocks_stay (SetProduct recipe good amount) book t r unnamed = refl
unlocks_stay (DropProduct recipe good) book t r unnamed = refl
unlocks_stay (SetTime recipe time) book t r unnamed = refl
unlocks_stay (SetEnabled recipe on) book t r unnamed = refl
unlocks_stay (Forbid mark) book t r unnamed = refl
unlocks_stay (Permit mark) book t r unnamed = refl
unlocks_stay (Grant mark) book t r unnamed = refl
unlocks_stay (Revoke mark) book t r unnamed = refl

pub alike_law : (edit : Edit) (book new : Book) → effect edit book ≡ Ok new → AlikeBut (edit ∷ []) book.game new.game
alike_law edit book new accepted =
    let is : new ≡ carried_out edit book = ((effect_law edit book).0 new accepted).0 in
    record {
      kept = edit_keeps_game edit book new accepted;
      products = λ r x unnamed. ap (λ (b : Book). passes (λ (recipe : Recipe). gives recipe.products x) (slice_get b.game.recipes r)) is ∙ products_stay edit book r x unnamed;
      unlocks = λ t r unnamed. ap (λ (b : Book). passes (λ (tech : Tech). list_any (λ u. u.0 == r) tech.unlocks) (slice_get b.game.techs t)) is ∙ unlocks_stay edit book t r unnamed;
    }
