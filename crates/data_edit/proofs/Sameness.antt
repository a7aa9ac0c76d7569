-- The tests of sameness tell sameness.
use Rattle.std.proofs.Common.{◌≡◌, ℕ, ◌==◌, ◌&&◌, Bool, List, [], ◌∷◌, Option, Some, None, pos, refl, ap}
use Rattle.std.specs.Bool.{Decides}
use Rattle.std.specs.Ordering.{int_eq}
use Rattle.std.proofs.lemmas.Bool.Decides.{Decides-and, Decides-eqb, Decides-int_eq, Decides-like}
use Rattle.std.proofs.lemmas.Option.{same_Some}
use Rattle.fractions.specs.Fraction.{Fraction, same_fraction}
use Rattle.plan_base.specs.declared.RecipeId.{RecipeId}
use Rattle.game_types.specs.declared.recipes.Part.{Part}
use Rattle.game_types.specs.declared.recipes.Product.{Product}
use Rattle.data_edit.specs.Lists.{is_bound, is_fraction, is_part, is_product, is_unlock, same_lists}

pos_same : (m n : ℕ) → pos m ≡ pos n → m ≡ n
pos_same m n e = cc

pub Decides-fraction : (x y : Fraction) → Decides (is_fraction x y) (x ≡ y)
Decides-fraction x y =
    Decides-like (is_fraction x y) (λ e. same_fraction x y e.0 (pos_same x.den y.den e.1)) (λ e. (ap (λ z. z.num) e, ap (λ z. pos z.den) e))
    (Decides-and (int_eq x.num y.num) (int_eq (pos x.den) (pos y.den)) (Decides-int_eq x.num y.num) (Decides-int_eq (pos x.den) (pos y.den)))

Decides-bound : (x y : Option Fraction) → Decides (is_bound x y) (x ≡ y)
Decides-bound None None = (λ e. refl, λ e. refl)
Decides-bound None (Some y) = (λ e. absurd cc, λ e. absurd cc)
Decides-bound (Some x) None = (λ e. absurd cc, λ e. absurd cc)
Decides-bound (Some x) (Some y) = Decides-like (is_fraction x y) (ap Some) (same_Some x y) (Decides-fraction x y)

-- functions of equal arguments
same_four : {A B C D R : Type 0} (f : A → B → C → D → R) (a a' : A) (b b' : B) (c c' : C) (d d' : D) → a ≡ a' → b ≡ b' → c ≡ c' → d ≡ d' → f a b c d ≡ f a' b' c' d'
same_four f a a' b b' c c' d d' p q r s = cc

same_six : {A B C D E F R : Type 0} (f : A → B → C → D → E → F → R) (a a' : A) (b b' : B) (c c' : C) (d d' : D) (e e' : E) (g g' : F)
    → a ≡ a' → b ≡ b' → c ≡ c' → d ≡ d' → e ≡ e' → g ≡ g' → f a b c d e g ≡ f a' b' c' d' e' g'
same_six f a a' b b' c c' d d' e e' g g' p q r s t u = cc

part_of : ℕ → Fraction → Option Fraction → Option Fraction → Part
part_of good amount low high = record { good = record { 0 = good }; amount = amount; low = low; high = high }

product_of : ℕ → Fraction → Fraction → Fraction → Fraction → Option Fraction → Product
product_of good low high probability catalyst temperature = record { good = record { 0 = good }; low = low; high = high; probability = probability; catalyst = catalyst; temperature = temperature }

pub Decides-part : (x y : Part) → Decides (is_part x y) (x ≡ y)
unfolding is_part part_of
Decides-part x y =
    Decides-like (is_part x y)
    (λ e. same_four part_of x.good.0 y.good.0 x.amount y.amount x.low y.low x.high y.high e.0.0.0 e.0.0.1 e.0.1 e.1)
    (λ e. (((ap (λ z. z.good.0) e, ap (λ z. z.amount) e), ap (λ z. z.low) e), ap (λ z. z.high) e))
    (Decides-and _ (is_bound x.high y.high)
    (Decides-and _ (is_bound x.low y.low)
    (Decides-and (x.good.0 == y.good.0) (is_fraction x.amount y.amount) (Decides-eqb x.good.0 y.good.0) (Decides-fraction x.amount y.amount))
    (Decides-bound x.low y.low))
    (Decides-bound x.high y.high))

pub Decides-product : (x y : Product) → Decides (is_product x y) (x ≡ y)
unfolding is_product product_of
Decides-product x y =
    Decides-like (is_product x y)
    (λ e. same_six product_of x.good.0 y.good.0 x.low y.low x.high y.high x.probability y.probability x.catalyst y.catalyst x.temperature y.temperature e.0.0.0.0.0 e.0.0.0.0.1 e.0.0.0.1 e.0.0.1 e.0.1 e.1)
    (λ e. (((((ap (λ z. z.good.0) e, ap (λ z. z.low) e), ap (λ z. z.high) e), ap (λ z. z.probability) e), ap (λ z. z.catalyst) e), ap (λ z. z.temperature) e))
    (Decides-and _ (is_bound x.temperature y.temperature)
    (Decides-and _ (is_fraction x.catalyst y.catalyst)
    (Decides-and _ (is_fraction x.probability y.probability)
    (Decides-and _ (is_fraction x.high y.high)
    (Decides-and (x.good.0 == y.good.0) (is_fraction x.low y.low) (Decides-eqb x.good.0 y.good.0) (Decides-fraction x.low y.low))
    (Decides-fraction x.high y.high))
    (Decides-fraction x.probability y.probability))
    (Decides-fraction x.catalyst y.catalyst))
    (Decides-bound x.temperature y.temperature))

pub Decides-unlock : (x y : RecipeId) → Decides (is_unlock x y) (x ≡ y)
Decides-unlock x y =
    let id_of : ℕ → RecipeId = λ n. record { 0 = n } in
    Decides-like (is_unlock x y) (λ e. ap id_of e) (λ e. ap (λ z. z.0) e) (Decides-eqb x.0 y.0)

heads : {E : Type 0} (x y : E) (xs ys : List E) → x ∷ xs ≡ y ∷ ys → x ≡ y
heads x y xs ys e = cc

tails : {E : Type 0} (x y : E) (xs ys : List E) → x ∷ xs ≡ y ∷ ys → xs ≡ ys
tails x y xs ys e = cc

joined : {E : Type 0} (x y : E) (xs ys : List E) → x ≡ y → xs ≡ ys → x ∷ xs ≡ y ∷ ys
joined x y xs ys e es = cc

pub Decides-lists : {E : Type 0} (same : E → E → Bool) → ((x y : E) → Decides (same x y) (x ≡ y)) → (xs ys : List E) → Decides (same_lists same xs ys) (xs ≡ ys)
Decides-lists same each [] [] = (λ e. refl, λ e. refl)
Decides-lists same each [] (y ∷ ys) = (λ e. absurd cc, λ e. absurd cc)
Decides-lists same each (x ∷ xs) [] = (λ e. absurd cc, λ e. absurd cc)
Decides-lists same each (x ∷ xs) (y ∷ ys) =
    Decides-like (same x y && same_lists same xs ys) (λ e. joined x y xs ys e.0 e.1) (λ e. (heads x y xs ys e, tails x y xs ys e))
    (Decides-and (same x y) (same_lists same xs ys) (each x y) (Decides-lists same each xs ys))
