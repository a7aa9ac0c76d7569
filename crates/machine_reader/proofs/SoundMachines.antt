-- What is divided by in a machine that is read is above 0, and it has few slots.
use Rattle.std.specs.Prelude.{◌≤◌, false}
use Rattle.std.proofs.Common.{arith}
use Rattle.fractions.specs.Fraction.{Fraction, ◌<ʳ◌, zero_fraction, one_fraction}
use Rattle.fractions.proofs.Order.{positive_of_num}
use Rattle.game_types.specs.declared.effects.Allowed.{Allowed}
use Rattle.prototype_fields.specs.declared.names.Key.{Key}
use Rattle.prototype_fields.specs.declared.names.Key.TheVariants.{CraftingSpeed, CraftingCategories, EnergyUsage, EnergySource, ModuleSpecification, ModuleSlots, BaseProductivity, MiningSpeed, ResourceCategories, InputFluidBox, PumpingSpeed, EnergyConsumption, Mode, TargetTemperature, FluidBox, OutputFluidBox, Effectivity, FluidUsagePerTick, MaximumTemperature, BurnsFluid, MaxPowerOutput, Production, Consumption, Inputs, ResearchingSpeed, DistributionEffectivity, Drain, EmissionsPerMinute, Fluid as FluidKey, Burner as BurnerKey}
use Rattle.prototype_fields.specs.declared.names.Within.TheVariants as within
use Rattle.prototype_fields.specs.Objects.{Object}
use Rattle.prototype_fields.specs.Values.{Names, text, required_name, flag_or, number_or, amount_or, required_amount, positive_or, power, required_power, object_at, required_object, object_or_empty, required_list, names_in, categories}
use Rattle.prototype_fields.proofs.Yields.{Yields, and_then, whatever, with_names_yields, required_positive_yields, positive_or_yields, whole_or_yields}
use Rattle.machine_reader.specs.declared.energy.EnergyKind.{EnergyKind}
use Rattle.machine_reader.specs.declared.energy.EnergyKind.TheVariants as kind
use Rattle.machine_reader.specs.declared.raw.RawEnergy.{RawEnergy}
use Rattle.machine_reader.specs.declared.raw.RawKind.{RawKind}
use Rattle.machine_reader.specs.declared.sections.Section.{Section}
use Rattle.machine_reader.specs.declared.sections.Section.TheVariants as section
use Rattle.machine_reader.specs.Energy.{filter_of, fuel_categories_of, kind_of, burner_of, fluid_energy_of, source_by, source_of, machine_source_of, burner_source_of}
use Rattle.machine_reader.specs.Machines.{all_allowed, none_allowed, allowed_of, recipe_of, parts_of, slots_of, crafter_rules_of, module_rules_of, drill_rules_of, beacon_rules_of, work_of, crafter_of, drill_of, pump_of, boiler_kind_of, boiler_of, generation_of, generator_of, burner_generator_of, solar_of, reactor_of, lab_work_of, lab_of, beacon_of, machine_by, machine_of}
use Rattle.machine_reader.specs.Sound.{IsSoundRawEnergy, IsRawBurner, IsSoundRawKind, IsSoundRawBurning, IsSoundRawMachine}

-- what works with any source
abbrev NeedsNoBurner : RawKind → Type 0
NeedsNoBurner kind = (source : RawEnergy) → IsSoundRawBurning kind source

one_positive : zero_fraction <ʳ one_fraction
unfolding one_fraction
one_positive = positive_of_num one_fraction (omega arith)

effectivity_positive : (object : Object) → Yields (positive_or object Effectivity one_fraction) (λ x. zero_fraction <ʳ x)
effectivity_positive object = positive_or_yields object Effectivity one_fraction one_positive

-- ---- energy
burner_sound : (object : Object) (names : Names) → Yields (burner_of object names) (λ found. IsSoundRawEnergy found.0 × IsRawBurner found.0)
unfolding burner_of
burner_sound object names =
    whatever (fuel_categories_of object names) λ found.
    and_then (effectivity_positive object) λ effectivity positive.
    record { holds = (positive, tt) }

fluid_sound : (object : Object) → Yields (fluid_energy_of object) IsSoundRawEnergy
unfolding fluid_energy_of
fluid_sound object =
    whatever (filter_of object FluidBox within.EnergySourceFluidBox) λ filter.
    and_then (effectivity_positive object) λ effectivity positive.
    record { holds = positive }

kind_sound : (object : Object) (names : Names) (emissions : Fraction) (named : EnergyKind) → Yields (source_by object names emissions named) (λ found. IsSoundRawEnergy found.0.energy)
kind_sound object names emissions kind.Electric = whatever (power object Drain) λ drain. record { holds = tt }
kind_sound object names emissions kind.Burner = and_then (burner_sound object names) λ found burns. record { holds = burns.0 }
kind_sound object names emissions kind.Heat = record { holds = tt }
kind_sound object names emissions kind.Fluid = and_then (fluid_sound object) λ energy positive. record { holds = positive }
kind_sound object names emissions kind.Void = record { holds = tt }

source_sound : (object : Object) (names : Names) → Yields (source_of object names) (λ found. IsSoundRawEnergy found.0.energy)
unfolding source_of
source_sound object names = whatever (kind_of object) λ named. whatever (number_or object EmissionsPerMinute zero_fraction) λ emissions. kind_sound object names emissions named

burner_source_sound : (object : Object) (names : Names) → Yields (burner_source_of object names) (λ found. IsSoundRawEnergy found.0.energy × IsRawBurner found.0.energy)
unfolding burner_source_of
burner_source_sound object names = whatever (number_or object EmissionsPerMinute zero_fraction) λ emissions. and_then (burner_sound object names) λ found burns. record { holds = burns }

slots_few : (object : Object) → Yields (slots_of object) (λ slots. slots ≤ 65_535)
unfolding slots_of
slots_few object = whatever (object_or_empty object ModuleSpecification within.ModuleSpecification) λ specification. whole_or_yields specification ModuleSlots 0 (omega arith)

machine_source_sound : (object : Object) (names : Names) → Yields (machine_source_of object names) (λ found. IsSoundRawEnergy found.0.energy)
unfolding machine_source_of
machine_source_sound object names = whatever (required_object object EnergySource within.EnergySource) λ source_object. source_sound source_object names

-- ---- what is said of modules
rules_few : (object : Object) (default : Allowed) → Yields (module_rules_of object default) (λ rules. rules.slots ≤ 65_535)
unfolding module_rules_of
rules_few object default =
    and_then (slots_few object) λ slots few.
    whatever (allowed_of object default) λ allowed.
    whatever (number_or object BaseProductivity zero_fraction) λ base_productivity.
    record { holds = few }

drill_rules_few : (object : Object) → Yields (drill_rules_of object) (λ rules. rules.modules.slots ≤ 65_535)
unfolding drill_rules_of
drill_rules_few object =
    and_then (slots_few object) λ slots few.
    whatever (number_or object BaseProductivity zero_fraction) λ base_productivity.
    whatever (allowed_of object all_allowed) λ allowed.
    whatever (object_at object InputFluidBox within.FluidBox) λ fluid_box.
    record { holds = few }

beacon_rules_few : (object : Object) → Yields (beacon_rules_of object) (λ rules. rules.slots ≤ 65_535)
unfolding beacon_rules_of
beacon_rules_few object =
    and_then (slots_few object) λ slots few.
    whatever (allowed_of object none_allowed) λ allowed.
    record { holds = few }

crafter_rules_few : (section : Section) (object : Object) → Yields (crafter_rules_of section object) (λ rules. rules.modules.slots ≤ 65_535)
unfolding crafter_rules_of
crafter_rules_few section object =
    and_then (rules_few object none_allowed) λ rules few.
    whatever (recipe_of section object) λ recipe.
    whatever (parts_of section object) λ parts.
    record { holds = few }

-- ---- machines
work_positive : (object : Object) (speed categories_key : Key) (names : Names) → Yields (work_of object speed categories_key names) (λ found. zero_fraction <ʳ found.0.speed)
unfolding work_of
work_positive object speed_key categories_key names =
    and_then (required_positive_yields object speed_key) λ speed positive.
    whatever (required_list object categories_key) λ elements.
    whatever (categories object categories_key elements names) λ found.
    record { holds = positive }

crafter_sound : (section : Section) (object : Object) (names : Names) → Yields (crafter_of section object names) (λ found. IsSoundRawMachine found.0)
unfolding crafter_of
crafter_sound section object names =
    and_then (work_positive object CraftingSpeed CraftingCategories names) λ work positive.
    whatever (required_power object EnergyUsage) λ usage.
    and_then (machine_source_sound object work.1) λ source powered.
    and_then (crafter_rules_few section object) λ rules few.
    record { holds = record { kind = positive; energy = powered; burning = tt; slots = few } }

drill_sound : (section : Section) (object : Object) (names : Names) → Yields (drill_of section object names) (λ found. IsSoundRawMachine found.0)
unfolding drill_of
drill_sound section object names =
    and_then (work_positive object MiningSpeed ResourceCategories names) λ work positive.
    whatever (required_power object EnergyUsage) λ usage.
    and_then (machine_source_sound object work.1) λ source powered.
    and_then (drill_rules_few object) λ rules few.
    record { holds = record { kind = positive; energy = powered; burning = tt; slots = few } }

pump_sound : (section : Section) (object : Object) → Yields (pump_of section object) IsSoundRawMachine
unfolding pump_of
pump_sound section object =
    whatever (required_name object FluidKey) λ fluid.
    and_then (required_positive_yields object PumpingSpeed) λ speed positive.
    record { holds = record { kind = positive; energy = tt; burning = tt; slots = omega arith } }

boiler_kind_sound : (object : Object) → Yields (boiler_kind_of object) (λ kind. IsSoundRawKind kind × NeedsNoBurner kind)
unfolding boiler_kind_of
boiler_kind_sound object =
    whatever (text object Mode) λ mode.
    whatever (amount_or object TargetTemperature zero_fraction) λ temperature.
    whatever (filter_of object FluidBox within.FluidBox) λ input.
    whatever (filter_of object OutputFluidBox within.OutputFluidBox) λ output.
    record { holds = (tt, λ source. tt) }

boiler_sound : (section : Section) (object : Object) (names : Names) → Yields (boiler_of section object names) (λ found. IsSoundRawMachine found.0)
unfolding boiler_of
boiler_sound section object names =
    and_then (machine_source_sound object names) λ source powered.
    whatever (required_power object EnergyConsumption) λ usage.
    and_then (boiler_kind_sound object) λ kind sound.
    record { holds = record { kind = sound.0; energy = powered; burning = sound.1 source.0.energy; slots = omega arith } }

generation_positive : (object : Object) → Yields (generation_of object) (λ made. zero_fraction <ʳ made.effectivity)
unfolding generation_of
generation_positive object =
    and_then (effectivity_positive object) λ effectivity positive.
    whatever (required_amount object FluidUsagePerTick) λ per_tick.
    whatever (required_amount object MaximumTemperature) λ max_temperature.
    whatever (flag_or object BurnsFluid false) λ burns.
    whatever (power object MaxPowerOutput) λ output.
    record { holds = positive }

generator_sound : (section : Section) (object : Object) → Yields (generator_of section object) IsSoundRawMachine
unfolding generator_of
generator_sound section object =
    whatever (filter_of object FluidBox within.FluidBox) λ input.
    and_then (generation_positive object) λ made positive.
    record { holds = record { kind = positive; energy = tt; burning = tt; slots = omega arith } }

burner_generator_sound : (section : Section) (object : Object) (names : Names) → Yields (burner_generator_of section object names) (λ found. IsSoundRawMachine found.0)
unfolding burner_generator_of
burner_generator_sound section object names =
    whatever (required_object object BurnerKey within.Burner) λ burner.
    and_then (burner_source_sound burner names) λ source burns.
    whatever (required_power object MaxPowerOutput) λ output.
    record { holds = record { kind = tt; energy = burns.0; burning = burns.1; slots = omega arith } }

solar_sound : (section : Section) (object : Object) → Yields (solar_of section object) IsSoundRawMachine
unfolding solar_of
solar_sound section object = whatever (required_power object Production) λ production. record { holds = record { kind = tt; energy = tt; burning = tt; slots = omega arith } }

reactor_sound : (section : Section) (object : Object) (names : Names) → Yields (reactor_of section object names) (λ found. IsSoundRawMachine found.0)
unfolding reactor_of
reactor_sound section object names =
    and_then (machine_source_sound object names) λ source powered.
    whatever (required_power object Consumption) λ usage.
    record { holds = record { kind = tt; energy = powered; burning = tt; slots = omega arith } }

lab_work_positive : (object : Object) → Yields (lab_work_of object) (λ work. zero_fraction <ʳ work.speed)
unfolding lab_work_of
lab_work_positive object =
    whatever (required_list object Inputs) λ elements.
    whatever (names_in object Inputs elements) λ inputs.
    and_then (positive_or_yields object ResearchingSpeed one_fraction one_positive) λ speed positive.
    record { holds = positive }

lab_sound : (section : Section) (object : Object) (names : Names) → Yields (lab_of section object names) (λ found. IsSoundRawMachine found.0)
unfolding lab_of
lab_sound section object names =
    and_then (lab_work_positive object) λ work positive.
    whatever (required_power object EnergyUsage) λ usage.
    and_then (machine_source_sound object names) λ source powered.
    and_then (rules_few object all_allowed) λ rules few.
    record { holds = record { kind = positive; energy = powered; burning = tt; slots = few } }

beacon_sound : (section : Section) (object : Object) (names : Names) → Yields (beacon_of section object names) (λ found. IsSoundRawMachine found.0)
unfolding beacon_of
beacon_sound section object names =
    whatever (required_amount object DistributionEffectivity) λ effectivity.
    whatever (required_power object EnergyUsage) λ usage.
    and_then (machine_source_sound object names) λ source powered.
    and_then (beacon_rules_few object) λ rules few.
    record { holds = record { kind = tt; energy = powered; burning = tt; slots = few } }

by_section : (section : Section) (object : Object) (names : Names) → Yields (machine_by section object names) (λ found. IsSoundRawMachine found.0)
by_section section.MiningDrill object names = drill_sound section.MiningDrill object names
by_section section.OffshorePump object names = with_names_yields names (pump_sound section.OffshorePump object)
by_section section.Boiler object names = boiler_sound section.Boiler object names
by_section section.Generator object names = with_names_yields names (generator_sound section.Generator object)
by_section section.BurnerGenerator object names = burner_generator_sound section.BurnerGenerator object names
by_section section.SolarPanel object names = with_names_yields names (solar_sound section.SolarPanel object)
by_section section.Reactor object names = reactor_sound section.Reactor object names
by_section section.Lab object names = lab_sound section.Lab object names
by_section section.Beacon object names = beacon_sound section.Beacon object names
by_section section object names = crafter_sound section object names

pub machine_sound : (section : Section) (object : Object) (names : Names) → Yields (machine_of section object names) (λ found. IsSoundRawMachine found.0)
unfolding machine_of
machine_sound section object names = by_section section object names
