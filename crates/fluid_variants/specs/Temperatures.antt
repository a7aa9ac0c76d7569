-- The temperatures at which fluids are made. After the prototype documentation of Factorio 1.1: a product without a temperature
-- has its fluid's default, and so has what a pump gives; a boiler heats to its target.
use Rattle.std.specs.Prelude.{◌≡◌, All, ℕ, ◌+◌, ◌==◌, true, List, [], ◌∷◌, ◌++◌, Option, Some, None, length, map, option_map, if◌then◌else◌}
use Rattle.std.specs.List.{flat_map, filter_map, range_with_len}
use Rattle.fractions.specs.Fraction.{Fraction, zero_fraction}
use Rattle.plan_base.specs.declared.ids.GoodId.{GoodId}
use Rattle.fractions.specs.Signs.{is_positive}
use Rattle.game_types.specs.Temperatures.{fluid_at, is_cooler}
use Rattle.game_types.specs.declared.games.Game.{Game}
use Rattle.game_types.specs.declared.goods.Fluid.{Fluid}
use Rattle.game_types.specs.declared.machinery.MachineKind.{MachineKind}
use Rattle.game_types.specs.declared.machinery.MachineKind.TheVariants.{Pump, Boiler}
use Rattle.game_types.specs.declared.recipes.Product.{Product}
use Rattle.fluid_variants.specs.declared.made.Made.{Made}

-- ---- what is made of a fluid, at its temperature
abbrev pub made : GoodId → Fraction → Made
made good at = record { good = good; at = at }

abbrev pub or_default : Option Fraction → Fluid → Fraction
or_default None fluid = fluid.default_temperature
or_default (Some at) fluid = at

-- of a product, where it is a fluid
unfoldable pub product_made : Game → Product → Option Made
product_made g product = option_map (λ fluid. made product.good (or_default product.temperature fluid)) (fluid_at g product.good.0)

-- a boiler heats to its target where that is above 0, and else to the default of its output; to 0 where it has no output
abbrev pub default_of : Option Fluid → Fraction
default_of None = zero_fraction
default_of (Some fluid) = fluid.default_temperature

abbrev pub output_default : Game → Option GoodId → Fraction
output_default g None = zero_fraction
output_default g (Some good) = default_of (fluid_at g good.0)

unfoldable pub heat_of : Game → Option GoodId → Fraction → Fraction
heat_of g output target = if is_positive target then target else output_default g output

-- of a machine
unfoldable pub machine_made : Game → MachineKind → Option Made
machine_made g (Pump fluid speed) = Some (made fluid (default_of (fluid_at g fluid.0)))
machine_made g (Boiler input (Some output) target) = Some (made output (heat_of g (Some output) target))
machine_made g kind = None

-- of all recipes, sources and machines
unfoldable pub all_made : Game → List Made
all_made g = flat_map (λ recipe. filter_map (product_made g) recipe.products) g.recipes
    ++ flat_map (λ source. filter_map (product_made g) source.products) g.sources
    ++ filter_map (λ machine. machine_made g machine.kind) g.machines

-- ---- the temperatures of a fluid, each once, rising
unfoldable pub with_temperature : Fraction → List Fraction → List Fraction
with_temperature at [] = at ∷ []
with_temperature at (other ∷ others) =
    if is_cooler other at then other ∷ with_temperature at others
    else if is_cooler at other then at ∷ other ∷ others
    else other ∷ others

-- those so far, and those at which more is made of the good
unfoldable pub temperatures : ℕ → List Fraction → List Made → List Fraction
temperatures good found [] = found
temperatures good found (one ∷ rest) = temperatures good (if one.good.0 == good then with_temperature one.at found else found) rest

-- each is below those behind it
abbrev pub IsRising : List Fraction → Type 0
IsRising [] = Unit {0}
IsRising (at ∷ rest) = All (λ other. is_cooler at other ≡ true) rest × IsRising rest

-- of each fluid in order; items come before fluids
unfoldable pub temperature_lists : Game → List (List Fraction)
temperature_lists g = map (λ k. temperatures (length g.items + k) [] (all_made g)) (range_with_len 0 (length g.fluids))
