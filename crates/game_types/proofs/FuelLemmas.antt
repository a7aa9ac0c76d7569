-- What is known of a fuel that a set-up may use, and of a burner.
use Rattle.std.specs.Prelude.{◌≡◌, Bool, true, false, ◌&&◌, Option, Some, None, IfSome, IsOk, Ok, Err, if◌then◌else◌}
use Rattle.std.proofs.Common.{refl}
use Rattle.fractions.specs.Fraction.{zero_fraction, ◌<ʳ◌}
use Rattle.plan_base.specs.declared.ids.GoodId.{GoodId}
use Rattle.game_types.specs.declared.goods.Fuel.{Fuel}
use Rattle.game_types.specs.declared.machinery.Energy.{Energy}
use Rattle.game_types.specs.declared.machinery.Energy.TheVariants.{Electric, Burner, Heat, Fluid, Void}
use Rattle.game_types.specs.declared.setups.Setup.{Setup}
use Rattle.game_types.specs.declared.games.Game.{Game}
use Rattle.game_types.specs.Fuels.{burnt_in, burner_effectivity, fuel_of_good, setup_fuel, fuel_use_of}
use Rattle.game_types.specs.Lookups.{item_at, machine_at}
use Rattle.fractions.specs.Signs.{is_positive}
use Rattle.game_types.specs.Sound.{IsSoundEnergy}
use Rattle.fractions.proofs.SignLemmas.{positive_is}

chosen : {A E : Type 0} (b : Bool) (x : A) (e : E) → IsOk (if b then Ok x else Err e) → b ≡ true
chosen true x e h = refl
chosen false x e h = h

second : (a b : Bool) → (a && b) ≡ true → b ≡ true
second true b h = h
second false b h = absurd (cc)

taken : (energy : Energy) (good : GoodId) (o : Option Fuel) → IsOk (burnt_in energy (Some good) o) → IfSome o (λ fuel. zero_fraction <ʳ fuel.value)
taken energy good None h = tt
taken (Burner categories effectivity) good (Some fuel) h = positive_is fuel.value (second _ (is_positive fuel.value) (chosen _ _ _ h))
taken Heat good (Some fuel) h = absurd (let k : false ≡ true = h in cc)
taken (Fluid filter effectivity) good (Some fuel) h = absurd (let k : false ≡ true = h in cc)
taken Electric good (Some fuel) h = absurd (let k : false ≡ true = h in cc)
taken Void good (Some fuel) h = absurd (let k : false ≡ true = h in cc)

taken_or_none : (g : Game) (energy : Energy) (good : Option GoodId) → IsOk (burnt_in energy good (fuel_of_good g good)) → IfSome (fuel_of_good g good) (λ fuel. zero_fraction <ʳ fuel.value)
taken_or_none g energy None h = tt
taken_or_none g energy (Some good) h = taken energy good (item_at g good).fuel h

-- the fuel that a set-up may use has energy
pub fuel_positive : (g : Game) (setup : Setup) → IsOk (fuel_use_of g setup) → IfSome (setup_fuel g setup) (λ fuel. zero_fraction <ʳ fuel.value)
unfolding setup_fuel fuel_use_of
fuel_positive g setup h = taken_or_none g (machine_at g setup.machine).energy setup.fuel h

-- a sound burner has an effectivity above 0
pub effectivity_positive : (g : Game) (energy : Energy) → IsSoundEnergy g energy → IfSome (burner_effectivity energy) (λ effectivity. zero_fraction <ʳ effectivity)
effectivity_positive g (Burner categories effectivity) h = h
effectivity_positive g Heat h = tt
effectivity_positive g (Fluid filter effectivity) h = tt
effectivity_positive g Electric h = tt
effectivity_positive g Void h = tt
