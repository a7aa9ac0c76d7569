-- The modules of a machine: how many there are, whether they fit, and what they add up to. After the prototype documentation
-- of Factorio 1.1 and the Factorio Wiki on modules.
use Rattle.std.specs.Prelude.{ℕ, ◌+◌, ◌-◌, ℤ, pos, ◌+ℤ◌, ◌*ℤ◌, nat_lt, List, [], ◌∷◌, Result, Ok, Err, if◌then◌else◌}
use Rattle.plan_base.specs.declared.ids.GoodId.{GoodId}
use Rattle.game_types.specs.declared.effects.Allowed.{Allowed}
use Rattle.game_types.specs.declared.effects.Bonus.{Bonus}
use Rattle.game_types.specs.declared.effects.EffectKind.{EffectKind}
use Rattle.game_types.specs.declared.effects.EffectKind.TheVariants.{Speed, Productivity, Consumption, Pollution}
use Rattle.game_types.specs.declared.fitting.FitFault.{FitFault}
use Rattle.game_types.specs.declared.fitting.FitFault.TheVariants.{Kind as FitKind, Limited as FitLimited}
use Rattle.game_types.specs.declared.refusals.ModuleFault.{ModuleFault}
use Rattle.game_types.specs.declared.refusals.ModuleFault.TheVariants.{TooMany, Kind, Limited}
use Rattle.game_types.specs.declared.setups.Activity.{Activity}
use Rattle.game_types.specs.declared.setups.Setup.{Setup}
use Rattle.game_types.specs.declared.games.Game.{Game}
use Rattle.game_types.specs.Fitting.{fit_of}
use Rattle.game_types.specs.Lookups.{machine_at, module_at}
use Rattle.game_types.specs.Steps.{◌▸◌, first_fault}

-- the hundredths of a kind of effect
abbrev pub of_kind : EffectKind → Bonus → ℤ
of_kind Speed bonus = bonus.speed
of_kind Productivity bonus = bonus.productivity
of_kind Consumption bonus = bonus.consumption
of_kind Pollution bonus = bonus.pollution

-- how many modules there are
unfoldable pub module_count : List (GoodId × ℕ) → ℕ
module_count [] = 0
module_count (m ∷ ms) = m.1 + module_count ms

-- the hundredths of all modules, each as often as it is there
unfoldable pub hundredths_of : Game → EffectKind → List (GoodId × ℕ) → ℤ
hundredths_of g kind [] = pos 0
hundredths_of g kind (m ∷ ms) = (of_kind kind (module_at g m.0).bonus *ℤ pos m.1) +ℤ hundredths_of g kind ms

abbrev pub bonus_of : Game → List (GoodId × ℕ) → Bonus
bonus_of g modules = record {
  speed = hundredths_of g Speed modules;
  productivity = hundredths_of g Productivity modules;
  consumption = hundredths_of g Consumption modules;
  pollution = hundredths_of g Pollution modules;
}

-- there are no more modules than slots; else the module at which their number first passes the slots
unfoldable pub slots_hold : ℕ → List (GoodId × ℕ) → Result (Unit {0}) ModuleFault
slots_hold slots [] = Ok tt
slots_hold slots (m ∷ ms) = if nat_lt slots m.1 then Err (TooMany m.0) else slots_hold (slots - m.1) ms

-- what doesn't fit, with the module's name
abbrev pub named : GoodId → Result (Unit {0}) FitFault → Result (Unit {0}) ModuleFault
named good (Ok fine) = Ok tt
named good (Err (FitKind kind)) = Err (Kind good kind)
named good (Err FitLimited) = Err (Limited good)

-- whether a module fits where these effects are allowed
unfoldable pub module_fits : Game → Allowed → Activity → GoodId → Result (Unit {0}) ModuleFault
module_fits g allowed activity good = named good (fit_of (module_at g good) allowed activity)

-- the first of some modules that doesn't fit
unfoldable pub modules_fit : Game → Allowed → Activity → List (GoodId × ℕ) → Result (Unit {0}) ModuleFault
modules_fit g allowed activity modules = first_fault (λ m. module_fits g allowed activity m.0) modules

-- first the slots, then each module in turn
unfoldable pub checked_modules : Game → Setup → Result (Unit {0}) ModuleFault
checked_modules g setup =
    slots_hold (machine_at g setup.machine).slots setup.modules ▸ λ _.
    modules_fit g (machine_at g setup.machine).allowed setup.activity setup.modules

unfoldable pub module_sum : Game → Setup → Result Bonus ModuleFault
module_sum g setup = checked_modules g setup ▸ λ _. Ok (bonus_of g setup.modules)
