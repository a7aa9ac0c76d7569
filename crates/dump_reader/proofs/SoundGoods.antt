-- The hundredths of a module that is read are small.
use Rattle.std.specs.Prelude.{◌≡◌, ℕ, ◌*◌, ◌≤◌, ◌||◌, Bool, true, false, ℤ, pos, negsuc, ◌*ℤ◌, int_div, unsigned_abs, if◌then◌else◌, None, Some, IfSome}
use Rattle.std.proofs.Common.{refl, sym, subst, arith}
use Rattle.std.proofs.Math.Nat.{div-le_of_le-mul}
use Rattle.std.proofs.lemmas.Int.{ints}
use Rattle.fractions.specs.Fraction.{Fraction, zero_fraction, whole_fraction, nat_abs-int_div}
use Rattle.game_types.specs.Sound.{IsSmall, IsSoundBonus}
use Rattle.prototype_fields.specs.declared.fault.FieldCode.TheVariants.{Limit}
use Rattle.prototype_fields.specs.declared.names.Key.{Key}
use Rattle.prototype_fields.specs.declared.names.Key.TheVariants.{Bonus as BonusKey, Speed, Productivity, Consumption, Pollution, Effect, Limitation, LimitationBlacklist, PlaceResult, FuelValue, BurntResult, HeatCapacity, DefaultTemperature}
use Rattle.prototype_fields.specs.declared.names.Within.{Within}
use Rattle.prototype_fields.specs.declared.names.Within.TheVariants as within
use Rattle.prototype_fields.specs.Numbers.{hundredths, is_less}
use Rattle.prototype_fields.specs.Objects.{Object, field}
use Rattle.prototype_fields.specs.Values.{Names, name, number_in, hundredths_or_zero, energy_or, number_or, object_or_empty}
use Rattle.prototype_fields.proofs.CutLemmas.{moderate}
use Rattle.prototype_fields.proofs.Yields.{Yields, and_then, whatever, or_wrong_yields, optional_yields, or_default_yields}
use Rattle.craft_reader.specs.Goods.{launch_products}
use Rattle.machine_reader.specs.declared.sections.Section.{Section}
use Rattle.machine_reader.specs.declared.sections.Section.TheVariants.{Module}
use Rattle.dump_reader.specs.Goods.{bonus_in, bonus_of, fluid_of, names_at, module_of, optional_module, fuel_in, item_of}
use Rattle.dump_reader.specs.Sound.{IsSoundRawItem}

-- ---- hundredths
quotient_small : (n : ℤ) (d : ℕ) → unsigned_abs n ≤ 1_000_000 * d → IsSmall (int_div (n *ℤ pos 100) (pos d))
quotient_small n d h =
    let hundredfold : unsigned_abs (n *ℤ pos 100) ≤ d * 100_000_000 = omega (arith, ints, h) in
    subst (λ (k : ℕ). k ≤ 100_000_000) (sym (nat_abs-int_div (n *ℤ pos 100) d)) (div-le_of_le-mul d hundredfold)

unless_either : (a b : Bool) (value : ℤ) → (a ≡ false → b ≡ false → IsSmall value) → IfSome (if a || b then None else Some value) IsSmall
unless_either true b value h = tt
unless_either false true value h = tt
unless_either false false value h = h refl refl

hundredths_small : (x : Fraction) → IfSome (hundredths x) IsSmall
hundredths_small x =
    unless_either (is_less (whole_fraction (pos 1_000_000)) x) (is_less x (whole_fraction (negsuc 999_999))) (int_div (x.num *ℤ pos 100) (pos x.den)) λ above beneath.
    quotient_small x.num x.den (moderate x above beneath)

hundredths_or_zero_small : (object : Object) (key : Key) → Yields (hundredths_or_zero object key) IsSmall
unfolding hundredths_or_zero
hundredths_or_zero_small object key =
    or_default_yields (pos 0) (omega arith) (optional_yields _ (field object key) λ value. whatever (number_in object key value) λ x. or_wrong_yields Limit object key (hundredths x) (hundredths_small x))

-- ---- modules
bonus_in_small : (effect : Object) (key : Key) (path : Within) → Yields (bonus_in effect key path) IsSmall
unfolding bonus_in
bonus_in_small effect key path = whatever (object_or_empty effect key path) λ kind. hundredths_or_zero_small kind BonusKey

bonus_sound : (effect : Object) → Yields (bonus_of effect) IsSoundBonus
bonus_sound effect =
    and_then (bonus_in_small effect Speed within.EffectSpeed) λ speed a.
    and_then (bonus_in_small effect Productivity within.EffectProductivity) λ productivity b.
    and_then (bonus_in_small effect Consumption within.EffectConsumption) λ consumption c.
    and_then (bonus_in_small effect Pollution within.EffectPollution) λ pollution d.
    record { holds = record { speed = a; productivity = b; consumption = c; pollution = d } }

module_sound : (object : Object) → Yields (module_of object) (λ m. IsSoundBonus m.bonus)
unfolding module_of
module_sound object =
    whatever (object_or_empty object Effect within.Effect) λ effect.
    and_then (bonus_sound effect) λ bonus small.
    whatever (names_at object Limitation) λ limitation.
    whatever (names_at object LimitationBlacklist) λ blacklist.
    record { holds = small }

optional_sound : (section : Section) (object : Object) → Yields (optional_module section object) (λ found. IfSome found (λ m. IsSoundBonus m.bonus))
unfolding optional_module
optional_sound Module object = and_then (module_sound object) λ found small. record { holds = small }
optional_sound section object = record { holds = tt }

-- ---- items
pub fluid_plain : (object : Object) → Yields (fluid_of object) (λ fluid. fluid.of ≡ None)
fluid_plain object =
    whatever (energy_or object FuelValue zero_fraction) λ fuel_value.
    whatever (energy_or object HeatCapacity (whole_fraction (pos 1000))) λ heat_capacity.
    whatever (number_or object DefaultTemperature (whole_fraction (pos 15))) λ default_temperature.
    record { holds = refl }

pub item_sound : (section : Section) (object : Object) (names : Names) → Yields (item_of section object names) (λ found. IsSoundRawItem found.0)
item_sound section object names =
    whatever (name object PlaceResult) λ place.
    whatever (fuel_in object names) λ fuel.
    whatever (name object BurntResult) λ burnt.
    and_then (optional_sound section object) λ found small.
    whatever (launch_products object) λ launch.
    record { holds = small }
