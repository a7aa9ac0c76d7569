-- Items and fluids as a dump has them: the table of their fields, in the order in which they are read. Fields and defaults
-- are those of the prototype documentation of Factorio 1.1.
use Rattle.std.specs.Prelude.{ℕ, ℤ, pos, List, Option, Some, None, option_map, Ok}
use Rattle.fractions.specs.Fraction.{Fraction, zero_fraction, one_fraction, whole_fraction}
use Rattle.prototype_fields.specs.declared.names.Key.{Key}
use Rattle.prototype_fields.specs.declared.names.Key.TheVariants.{PlaceResult, FuelCategory, FuelValue, FuelEmissionsMultiplier, BurntResult, Effect, Speed, Productivity, Consumption, Pollution, Bonus as BonusKey, Limitation, LimitationBlacklist, HeatCapacity, DefaultTemperature}
use Rattle.prototype_fields.specs.declared.names.Within.{Within}
use Rattle.prototype_fields.specs.declared.names.Within.TheVariants as within
use Rattle.prototype_fields.specs.Objects.{Object}
use Rattle.prototype_fields.specs.Values.{Reading, ◌▸◌, Names, name, optional_category, energy_or, amount_or, number_or, hundredths_or_zero, object_or_empty, list_or_empty, names_in}
use Rattle.craft_reader.specs.Goods.{launch_products}
use Rattle.game_types.specs.declared.effects.Bonus.{Bonus}
use Rattle.game_types.specs.declared.goods.Fluid.{Fluid}
use Rattle.game_types.specs.declared.goods.Fuel.{Fuel}
use Rattle.dump_reader.specs.declared.raw.RawItem.{RawItem}
use Rattle.dump_reader.specs.declared.raw.RawModule.{RawModule}
use Rattle.machine_reader.specs.declared.sections.Section.{Section}
use Rattle.machine_reader.specs.declared.sections.Section.TheVariants.{Module}

-- ---- fluid: one record, until it is known at which temperatures it is made
abbrev pub fluid_of : Object → Reading Fluid
fluid_of object =
    energy_or object FuelValue zero_fraction ▸ λ fuel_value.
    energy_or object HeatCapacity (whole_fraction (pos 1000)) ▸ λ heat_capacity.
    number_or object DefaultTemperature (whole_fraction (pos 15)) ▸ λ default_temperature.
    Ok (record { fuel_value = fuel_value; heat_capacity = heat_capacity; default_temperature = default_temperature; of = None; at = default_temperature })

-- ---- module
-- the bonus of one kind, in hundredths
unfoldable pub bonus_in : Object → Key → Within → Reading ℤ
bonus_in effect key path =
    object_or_empty effect key path ▸ λ kind.
    hundredths_or_zero kind BonusKey

abbrev pub bonus_of : Object → Reading Bonus
bonus_of effect =
    bonus_in effect Speed within.EffectSpeed ▸ λ speed.
    bonus_in effect Productivity within.EffectProductivity ▸ λ productivity.
    bonus_in effect Consumption within.EffectConsumption ▸ λ consumption.
    bonus_in effect Pollution within.EffectPollution ▸ λ pollution.
    Ok (record { speed = speed; productivity = productivity; consumption = consumption; pollution = pollution })

-- the names of a list, of which there may be none
unfoldable pub names_at : Object → Key → Reading (List (List ℕ))
names_at object key =
    list_or_empty object key ▸ λ elements.
    names_in object key elements

unfoldable pub module_of : Object → Reading RawModule
module_of object =
    object_or_empty object Effect within.Effect ▸ λ effect.
    bonus_of effect ▸ λ bonus.
    names_at object Limitation ▸ λ limitation.
    names_at object LimitationBlacklist ▸ λ blacklist.
    Ok (record { bonus = bonus; limitation = limitation; blacklist = blacklist })

-- only what stands in the section of modules is one
unfoldable pub optional_module : Section → Object → Reading (Option RawModule)
optional_module Module object = module_of object ▸ λ found. Ok (Some found)
optional_module section object = Ok None

-- ---- items: one is a fuel where it has a category
abbrev pub fuel_of : Option ℕ → Fraction → Fraction → Option Fuel
fuel_of category value emissions = option_map (λ number. record { category = number; value = value; emissions = emissions }) category

unfoldable pub fuel_in : Object → Names → Reading (Option Fuel × Names)
fuel_in object names =
    name object FuelCategory ▸ λ fuel_category.
    optional_category object FuelCategory fuel_category names ▸ λ category.
    energy_or object FuelValue zero_fraction ▸ λ value.
    amount_or object FuelEmissionsMultiplier one_fraction ▸ λ emissions.
    Ok (fuel_of category.0 value emissions, category.1)

abbrev pub item_of : Section → Object → Names → Reading (RawItem × Names)
item_of section object names =
    name object PlaceResult ▸ λ place.
    fuel_in object names ▸ λ fuel.
    name object BurntResult ▸ λ burnt.
    optional_module section object ▸ λ found.
    launch_products object ▸ λ launch.
    Ok (record { section = section; place = place; fuel = fuel.0; burnt = burnt; «module» = found; launch = launch }, fuel.1)
