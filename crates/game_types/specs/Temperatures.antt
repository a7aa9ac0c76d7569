-- Fluids by temperature: which goods an ingredient takes, and which of them a row of a table takes. A fluid that is made at
-- several temperatures is a base, which stands for it at any temperature, and a variant for each of them; every other fluid
-- is one plain record. After the prototype documentation of Factorio 1.1 (`FluidIngredientPrototype`, temperature bounds).
use Rattle.std.specs.Prelude.{ℕ, ◌+◌, ◌-◌, ◌==◌, ◌&&◌, ◌||◌, Bool, true, false, not, pos, ◌*ℤ◌, int_lt, nat_lt, List, [], ◌∷◌, Option, Some, None, is_some, option_map, length, slice_get, if◌then◌else◌}
use Rattle.std.specs.List.{list_any}
use Rattle.fractions.specs.Fraction.{Fraction}
use Rattle.plan_base.specs.declared.ids.GoodId.{GoodId}
use Rattle.game_types.specs.declared.goods.Fluid.{Fluid}
use Rattle.game_types.specs.declared.games.Game.{Game}

-- ---- temperatures
abbrev pub is_cooler : Fraction → Fraction → Bool
is_cooler x y = int_lt (x.num *ℤ pos y.den) (y.num *ℤ pos x.den)

abbrev pub is_warm_enough : Option Fraction → Fraction → Bool
is_warm_enough None at = true
is_warm_enough (Some low) at = not (is_cooler at low)

abbrev pub is_cool_enough : Option Fraction → Fraction → Bool
is_cool_enough None at = true
is_cool_enough (Some high) at = not (is_cooler high at)

-- whether a temperature is within two bounds, each of which may be absent
unfoldable pub is_within : Option Fraction → Option Fraction → Fraction → Bool
is_within low high at = is_warm_enough low at && is_cool_enough high at

-- ---- bases and variants
-- whether there is a good and it is this one
abbrev pub is_good : Option GoodId → ℕ → Bool
is_good None good = false
is_good (Some g) good = g.0 == good

-- a base is what has a variant
unfoldable pub is_base : Game → ℕ → Bool
is_base g good = list_any (λ fluid. is_good fluid.of good) g.fluids

-- the fluid that a good is; items come before fluids
unfoldable pub fluid_at : Game → ℕ → Option Fluid
fluid_at g good = if nat_lt good (length g.items) then None else slice_get g.fluids (good - length g.items)

-- ---- the fits of an ingredient, or of what a source takes
-- a variant of the base within the bounds
abbrev pub is_fit_variant : ℕ → Option Fraction → Option Fraction → Fluid → Bool
is_fit_variant base low high fluid = is_good fluid.of base && is_within low high fluid.at

abbrev pub is_some_fit_variant : ℕ → Option Fraction → Option Fraction → Option Fluid → Bool
is_some_fit_variant base low high None = false
is_some_fit_variant base low high (Some fluid) = is_fit_variant base low high fluid

-- an item and a variant fit at any temperature, a plain fluid within the bounds
abbrev pub fits_alone : Option Fraction → Option Fraction → Option Fluid → Bool
fits_alone low high None = true
fits_alone low high (Some fluid) = is_some fluid.of || is_within low high fluid.at

-- of a base its variants within the bounds, of any other good itself
unfoldable pub is_fit : Game → ℕ → Option Fraction → Option Fraction → ℕ → Bool
is_fit g good low high fit =
    if is_base g good then is_some_fit_variant good low high (fluid_at g fit)
    else (fit == good) && fits_alone low high (fluid_at g good)

-- ---- the choice of a row: the first good of its own that is a fit, or else the coolest fit
abbrev pub first_where : {A : Type 0} → (A → Bool) → List A → Option A
first_where test [] = None
first_where test (x ∷ xs) = if test x then Some x else first_where test xs

-- a fluid in place of the coolest one so far, where it is cooler
abbrev pub cooler_of : Option (GoodId × Fraction) → ℕ → Fraction → Option (GoodId × Fraction)
cooler_of None good at = Some (record { 0 = good }, at)
cooler_of (Some best) good at = if is_cooler at best.1 then Some (record { 0 = good }, at) else Some best

-- the coolest of the best so far and those fluids, numbered from the first on, that pass a test
unfoldable pub coolest : (Fluid → Bool) → Option (GoodId × Fraction) → ℕ → List Fluid → Option (GoodId × Fraction)
coolest test best first [] = best
coolest test best first (fluid ∷ fluids) = coolest test (if test fluid then cooler_of best first fluid.at else best) (first + 1) fluids

-- the variants' coolest, with what is no base its own fit
unfoldable pub coolest_fit : Game → ℕ → Option Fraction → Option Fraction → Option GoodId
coolest_fit g good low high =
    if is_base g good then option_map (λ best. best.0) (coolest (is_fit_variant good low high) None (length g.items) g.fluids)
    else if fits_alone low high (fluid_at g good) then Some (record { 0 = good })
    else None

abbrev pub or_else : {A : Type 0} → Option A → Option A → Option A
or_else (Some found) other = Some found
or_else None other = other

unfoldable pub choice_of : Game → List GoodId → ℕ → Option Fraction → Option Fraction → Option GoodId
choice_of g at good low high = or_else (first_where (λ own. is_fit g good low high own.0) at) (coolest_fit g good low high)
