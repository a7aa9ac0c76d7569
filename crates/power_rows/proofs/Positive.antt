-- What a machine that gives something is divided by is above 0.
use Rattle.std.specs.Prelude.{ℕ, ◌≡◌, Bool, true, false, not, ◌||◌, pos, ◌*ℤ◌, int_lt, ◌<ℤ◌, ℤ, Option, Some, None, Result, Ok, Err, IfOk, if◌then◌else◌}
use Rattle.std.proofs.Common.{refl, sym, subst, arith}
use Rattle.std.proofs.lemmas.Int.{ints}
use Rattle.std.proofs.lemmas.Bool.{not-false}
use Rattle.fractions.specs.Fraction.{Fraction, zero_fraction, ◌<ʳ◌, ◌-ʳ◌}
use Rattle.fractions.proofs.Order.{positive-*ʳ, difference_from_lt}
use Rattle.plan_base.specs.declared.ids.GoodId.{GoodId}
use Rattle.game_types.specs.declared.effects.Wide.{Wide}
use Rattle.game_types.specs.declared.goods.Fluid.{Fluid}
use Rattle.game_types.specs.declared.machinery.MachineKind.{MachineKind}
use Rattle.game_types.specs.declared.machinery.MachineKind.TheVariants.{Generator, BurnerGenerator, Solar}
use Rattle.fractions.specs.Signs.{is_positive}
use Rattle.game_types.specs.Steps.{multiplied, subtracted, formed, do_fit}
use Rattle.game_types.specs.Temperatures.{is_cooler}
use Rattle.fractions.proofs.SignLemmas.{positive_is}
use Rattle.game_types.proofs.StepLemmas.{multiplied_value}
use Rattle.power_rows.specs.Power.{at_most, checked_power, heats_nothing, is_idle, is_shut, gives_nothing, makes, power_fits}
use Rattle.power_rows.specs.Inputs.{fluid_in}
use Rattle.game_types.specs.Lookups.{machine_at}
use Rattle.game_types.specs.declared.setups.Setup.{Setup}
use Rattle.game_types.specs.declared.games.Game.{Game}

pub first : (a b : Bool) → (a || b) ≡ false → a ≡ false
first false b h = refl
first true b h = absurd (cc)

pub second : (a b : Bool) → (a || b) ≡ false → b ≡ false
second false b h = h
second true b h = absurd (cc)

pub third : (a b c : Bool) → (a || b || c) ≡ false → c ≡ false
third false false c h = h
third false true c h = absurd (cc)
third true b c h = absurd (cc)

pub middle : (a b c : Bool) → (a || b || c) ≡ false → b ≡ false
middle false false c h = refl
middle false true c h = absurd (cc)
middle true b c h = absurd (cc)

pub foremost : (a b c : Bool) → (a || b || c) ≡ false → a ≡ false
foremost false b c h = refl
foremost true b c h = absurd (cc)

pub positive_not : (x : Fraction) → not (is_positive x) ≡ false → zero_fraction <ʳ x
positive_not x h = positive_is x (not-false (is_positive x) h)

int_less : (x y : ℤ) → int_lt x y ≡ true → x <ℤ y
int_less x y h = grind (arith, ints)

cooler : (x y : Fraction) → is_cooler x y ≡ true → x <ʳ y
cooler x y h = record { cross = int_less (x.num *ℤ pos y.den) (y.num *ℤ pos x.den) h }

either : (b : Bool) (x y : Fraction) → zero_fraction <ʳ x → zero_fraction <ʳ y → zero_fraction <ʳ (if b then x else y)
either true x y h k = h
either false x y h k = k

pub at_most_positive : (limit x : Fraction) → zero_fraction <ʳ limit → zero_fraction <ʳ x → zero_fraction <ʳ at_most limit x
at_most_positive limit x h k = either (is_cooler limit x) limit x h k

pub shut_positive : (o : Option Fraction) (x : Fraction) → o ≡ Some x → is_shut o ≡ false → zero_fraction <ʳ x
shut_positive (Some y) x e h = subst (λ z. zero_fraction <ʳ z) (cc) (positive_not y h)
shut_positive None x e h = absurd (cc)

pub boiler_usage : (fluid : Fluid) (temperature usage : Fraction) → heats_nothing fluid temperature usage ≡ false → zero_fraction <ʳ usage
boiler_usage fluid temperature usage h = positive_not usage (third (not (is_cooler fluid.at temperature)) (not (is_positive fluid.heat_capacity)) (not (is_positive usage)) h)

pub warm_capacity : (fluid : Fluid) (most : Fraction) → is_idle false fluid most ≡ false → zero_fraction <ʳ fluid.heat_capacity
warm_capacity fluid most h = positive_not fluid.heat_capacity (second (not (is_cooler fluid.default_temperature (at_most most fluid.at))) (not (is_positive fluid.heat_capacity)) h)

pub warm_rise : (fluid : Fluid) (most : Fraction) → is_idle false fluid most ≡ false → zero_fraction <ʳ (at_most most fluid.at -ʳ fluid.default_temperature)
warm_rise fluid most h =
    difference_from_lt fluid.default_temperature (at_most most fluid.at)
    (cooler fluid.default_temperature (at_most most fluid.at) (not-false (is_cooler fluid.default_temperature (at_most most fluid.at)) (first (not (is_cooler fluid.default_temperature (at_most most fluid.at))) (not (is_positive fluid.heat_capacity)) h)))

pub burns_value : (burns : Bool) (fluid : Fluid) (most : Fraction) → burns ≡ true → is_idle burns fluid most ≡ false → zero_fraction <ʳ fluid.fuel_value
burns_value true fluid most b h = positive_not fluid.fuel_value h
burns_value false fluid most b h = absurd (cc)

subtracted_is : (step : ℕ) (fits : Bool) (x y : Fraction) → Ok y ≡ formed step fits x → y ≡ x
unfolding formed
subtracted_is step true x y e = cc
subtracted_is step false x y e = absurd (cc)

-- the value that a difference gives
pub subtracted_value : (step : ℕ) (x y z : Fraction) → Ok z ≡ subtracted step x y → z ≡ x -ʳ y
unfolding subtracted
subtracted_value step x y z e = subtracted_is step (do_fit x _) (x -ʳ y) z e

pub product_positive : (step : ℕ) (x y : Fraction) (r : Result Fraction Wide) → r ≡ multiplied step x y → zero_fraction <ʳ x → zero_fraction <ʳ y → IfOk r (λ e. zero_fraction <ʳ e)
product_positive step x y (Ok z) e h k = subst (λ (w : Fraction). zero_fraction <ʳ w) (sym (multiplied_value step x y z e)) (positive-*ʳ x y h k)
product_positive step x y (Err w) e h k = tt

pub generator_tick : (fluid : Fluid) (usage : Fraction) (kind : MachineKind) {input : Option GoodId} (effectivity per_tick most : Fraction) (burns : Bool) (output : Option Fraction)
    → kind ≡ Generator input effectivity per_tick most burns output → gives_nothing fluid usage kind ≡ false → zero_fraction <ʳ per_tick
generator_tick fluid usage kind effectivity per_tick most burns output is h =
    positive_not per_tick (middle (is_idle burns fluid most) (not (is_positive per_tick)) (is_shut output) (subst (λ (k : MachineKind). gives_nothing fluid usage k ≡ false) is h))

pub burner_output : (fluid : Fluid) (usage : Fraction) (kind : MachineKind) (output : Fraction) → kind ≡ BurnerGenerator output → gives_nothing fluid usage kind ≡ false → zero_fraction <ʳ output
burner_output fluid usage kind output is h = positive_not output (subst (λ (k : MachineKind). gives_nothing fluid usage k ≡ false) is h)

pub panel_production : (fluid : Fluid) (usage : Fraction) (kind : MachineKind) (production : Fraction) → kind ≡ Solar production → gives_nothing fluid usage kind ≡ false → zero_fraction <ʳ production
panel_production fluid usage kind production is h = positive_not production (subst (λ (k : MachineKind). gives_nothing fluid usage k ≡ false) is h)

pub gives_something : (makes_it nothing : Bool) → power_fits makes_it nothing ≡ Ok tt → nothing ≡ false
gives_something true false h = refl
gives_something true true h = absurd (cc)
gives_something false nothing h = absurd (cc)

pub checked_gives : (g : Game) (setup : Setup) → checked_power g setup ≡ Ok tt → gives_nothing (fluid_in g setup) (machine_at g setup.machine).usage (machine_at g setup.machine).kind ≡ false
unfolding checked_power
checked_gives g setup h =
    gives_something (makes (machine_at g setup.machine).kind setup.activity) (gives_nothing (fluid_in g setup) (machine_at g setup.machine).usage (machine_at g setup.machine).kind) h
