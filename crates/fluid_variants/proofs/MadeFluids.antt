-- What is made in a sound game are its fluids.
use Rattle.std.proofs.Common.{◌≡◌, ◌≤◌, ◌-◌, ℕ, Bool, true, false, List, [], ◌∷◌, Option, Some, None, length, get_or, refl, arith}
use Rattle.std.specs.Prelude.{All, IfSome, option_map, slice_get, nat_lt, if◌then◌else◌}
use Rattle.std.specs.List.{cons_option, filter_map, flat_map}
use Rattle.std.proofs.lemmas.Bool.Decides.{nat_tests}
use Rattle.std.proofs.lemmas.List.Elements.{All-nil, All-cons, All-append, All-head, All-tail}
use Rattle.std.proofs.lemmas.Option.{slice_get_within}
use Rattle.game_types.specs.Sound.{IsFluid, IsSound, IsSoundKind}
use Rattle.game_types.specs.Temperatures.{fluid_at}
use Rattle.game_types.specs.declared.games.Game.{Game}
use Rattle.game_types.specs.declared.goods.Fluid.{Fluid}
use Rattle.game_types.specs.declared.machinery.MachineKind.{MachineKind}
use Rattle.game_types.specs.declared.machinery.MachineKind.TheVariants.{Crafter, Drill, Pump, Boiler, Generator, BurnerGenerator, Solar, Reactor, Lab, Beacon}
use Rattle.game_types.specs.declared.recipes.Product.{Product}
use Rattle.fluid_variants.specs.declared.made.Made.{Made}
use Rattle.fluid_variants.specs.Temperatures.{all_made, machine_made, made, or_default, product_made}

abbrev IsOfFluid : Game → Made → Type 0
IsOfFluid g m = IsFluid g m.good.0

found_all : {A B : Type 0} (P : B → Type 0) (f : A → Option B) → (xs : List A) → All (λ x. IfSome (f x) P) xs → All P (filter_map f xs)
found_all P f [] all = All-nil P
found_all {A = A} {B = B} P f (x ∷ xs) all = by_found (f x) (All-head (λ y. IfSome (f y) P) x xs all) (found_all P f xs (All-tail (λ y. IfSome (f y) P) x xs all))
  where
    by_found : (found : Option B) → IfSome found P → All P (filter_map f xs) → All P (cons_option found (filter_map f xs))
    by_found None holds rest = rest
    by_found (Some y) holds rest = All-cons P y (filter_map f xs) holds rest

flat_all : {A B : Type 0} (P : B → Type 0) (f : A → List B) → ((x : A) → All P (f x)) → (xs : List A) → All P (flat_map f xs)
flat_all P f one [] = All-nil P
flat_all P f one (x ∷ xs) = All-append P (f x) (flat_map f xs) (one x) (flat_all P f one xs)

fluid_there : (g : Game) (good : ℕ) (fluid : Fluid) → fluid_at g good ≡ Some fluid → IsFluid g good
unfolding fluid_at
fluid_there g good fluid is = by_test (nat_lt good (length g.items)) refl is
  where
    by_test : (b : Bool) → nat_lt good (length g.items) ≡ b → (if b then None else slice_get g.fluids (good - length g.items)) ≡ Some fluid → IsFluid g good
    by_test true test is = absurd (cc)
    by_test false test is =
        let from : length g.items ≤ good = grind (arith, nat_tests, test) in
        let within = slice_get_within g.fluids (good - length g.items) fluid is in
        (from, omega (arith, from, within))

of_product : (g : Game) (product : Product) → IfSome (product_made g product) (IsOfFluid g)
unfolding product_made
of_product g product = by_fluid (fluid_at g product.good.0) refl
  where
    by_fluid : (found : Option Fluid) → fluid_at g product.good.0 ≡ found → IfSome (option_map (λ fluid. made product.good (or_default product.temperature fluid)) found) (IsOfFluid g)
    by_fluid None is = tt
    by_fluid (Some fluid) is = fluid_there g product.good.0 fluid is

of_products : (g : Game) (products : List Product) → All (IsOfFluid g) (filter_map (product_made g) products)
of_products g products = found_all (IsOfFluid g) (product_made g) products (λ k d within. of_product g (get_or products k d))

of_kind : (g : Game) (kind : MachineKind) → IsSoundKind g kind → IfSome (machine_made g kind) (IsOfFluid g)
unfolding machine_made
of_kind g (Crafter speed categories fixed) h = tt
of_kind g (Drill speed categories fluid_box) h = tt
of_kind g (Pump fluid speed) h = h.0
of_kind g (Boiler input None target) h = tt
of_kind g (Boiler input (Some output) target) h = h.1
of_kind g (Generator input effectivity per_tick max_temperature burns output) h = tt
of_kind g (BurnerGenerator output) h = tt
of_kind g (Solar production) h = tt
of_kind g Reactor h = tt
of_kind g (Lab inputs speed) h = tt
of_kind g (Beacon effectivity) h = tt

pub made_fluids : (g : Game) → IsSound g → All (IsOfFluid g) (all_made g)
unfolding all_made
made_fluids g sound =
    All-append (IsOfFluid g) _ _
    (All-append (IsOfFluid g) _ _
    (flat_all (IsOfFluid g) (λ recipe. filter_map (product_made g) recipe.products) (λ recipe. of_products g recipe.products) g.recipes)
    (flat_all (IsOfFluid g) (λ source. filter_map (product_made g) source.products) (λ source. of_products g source.products) g.sources))
    (found_all (IsOfFluid g) (λ machine. machine_made g machine.kind) g.machines (λ k d within. of_kind g (get_or g.machines k d).kind (sound.machines k d within).kind))
