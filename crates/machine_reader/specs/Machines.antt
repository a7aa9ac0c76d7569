-- Machines as a dump has them: a table of fields for each kind, in the order in which they are read. Fields and defaults are
-- those of the prototype documentation of Factorio 1.1; the default drain is this project's own.
use Rattle.std.specs.Prelude.{ℕ, pos, Bool, true, false, is_some, List, [], ◌∷◌, Option, Some, None, Ok, codes}
use Rattle.std.specs.List.{list_any}
use Rattle.std.specs.Str.{bytes_eq}
use Rattle.json_text.specs.Kept.{Kept}
use Rattle.fractions.specs.Fraction.{Fraction, zero_fraction, one_fraction, whole_fraction, ◌/ʳ◌}
use Rattle.game_types.specs.declared.effects.Allowed.{Allowed}
use Rattle.prototype_fields.specs.declared.names.Key.{Key}
use Rattle.prototype_fields.specs.declared.names.Key.TheVariants.{CraftingSpeed, CraftingCategories, EnergyUsage, ModuleSpecification, ModuleSlots, AllowedEffects, BaseProductivity, FixedRecipe, RocketPartsRequired, MiningSpeed, ResourceCategories, InputFluidBox, PumpingSpeed, EnergyConsumption, Mode, TargetTemperature, FluidBox, OutputFluidBox, Effectivity, FluidUsagePerTick, MaximumTemperature, BurnsFluid, MaxPowerOutput, Production, Consumption, Inputs, ResearchingSpeed, DistributionEffectivity, Fluid as FluidKey, Burner as BurnerKey}
use Rattle.prototype_fields.specs.declared.names.Within.TheVariants as within
use Rattle.prototype_fields.specs.Objects.{Object, as_text, field}
use Rattle.prototype_fields.specs.Values.{Reading, ◌▸◌, Names, with_names, text, name, required_name, flag_or, number_or, amount_or, required_amount, required_positive, positive_or, whole_or, power, required_power, object_at, required_object, object_or_empty, required_list, names_in, categories}
use Rattle.machine_reader.specs.declared.energy.Source.{Source}
use Rattle.machine_reader.specs.declared.crafters.CrafterRules.{CrafterRules}
use Rattle.machine_reader.specs.declared.crafters.DrillRules.{DrillRules}
use Rattle.machine_reader.specs.declared.power.Generation.{Generation}
use Rattle.machine_reader.specs.declared.machines.LabWork.{LabWork}
use Rattle.machine_reader.specs.declared.module_rules.ModuleRules.{ModuleRules}
use Rattle.machine_reader.specs.declared.machines.Work.{Work}
use Rattle.machine_reader.specs.declared.raw.RawEnergy.{RawEnergy}
use Rattle.machine_reader.specs.declared.raw.RawEnergy.TheVariants.{Electric, Void}
use Rattle.machine_reader.specs.declared.raw.RawKind.{RawKind}
use Rattle.machine_reader.specs.declared.raw.RawKind.TheVariants.{Crafter, Drill, Pump, Boiler, Generator, BurnerGenerator, Solar, Reactor, Lab, Beacon}
use Rattle.machine_reader.specs.declared.raw.RawMachine.{RawMachine}
use Rattle.machine_reader.specs.declared.sections.Section.{Section}
use Rattle.machine_reader.specs.declared.sections.Section.TheVariants as section
use Rattle.machine_reader.specs.Energy.{machine_source_of, burner_source_of, filter_of}

-- ---- module slots
unfoldable pub slots_of : Object → Reading ℕ
slots_of object =
    object_or_empty object ModuleSpecification within.ModuleSpecification ▸ λ specification.
    whole_or specification ModuleSlots 0

-- ---- allowed effects: a text or a list of texts, of which unknown ones are passed over
abbrev pub all_allowed : Allowed
all_allowed = record { speed = true; productivity = true; consumption = true; pollution = true }

abbrev pub none_allowed : Allowed
none_allowed = record { speed = false; productivity = false; consumption = false; pollution = false }

abbrev pub has_text : List (List ℕ) → List ℕ → Bool
has_text texts wanted = list_any (λ text. bytes_eq text wanted) texts

abbrev pub allowed_by : List (List ℕ) → Allowed
allowed_by texts = record {
  speed = has_text texts (codes "speed");
  productivity = has_text texts (codes "productivity");
  consumption = has_text texts (codes "consumption");
  pollution = has_text texts (codes "pollution");
}

unfoldable pub allowed_list : Object → Reading Allowed
allowed_list object =
    required_list object AllowedEffects ▸ λ elements.
    names_in object AllowedEffects elements ▸ λ texts.
    Ok (allowed_by texts)

abbrev pub allowed_text : Object → Option (List ℕ) → Reading Allowed
allowed_text object (Some text) = Ok (allowed_by (text ∷ []))
allowed_text object None = allowed_list object

abbrev pub allowed_in : Object → Allowed → Option Kept → Reading Allowed
allowed_in object default None = Ok default
allowed_in object default (Some value) = allowed_text object (as_text value)

unfoldable pub allowed_of : Object → Allowed → Reading Allowed
allowed_of object default = allowed_in object default (field object AllowedEffects)

-- ---- drain: only electric machines have one
abbrev pub drain_of : RawEnergy → Option Fraction → Fraction → Fraction
drain_of Electric (Some drain) default = drain
drain_of Electric None default = default
drain_of energy drain default = zero_fraction

-- ---- what a machine says of modules: how many it holds, the effects that it takes, and its productivity without any
unfoldable pub module_rules_of : Object → Allowed → Reading ModuleRules
module_rules_of object default =
    slots_of object ▸ λ slots.
    allowed_of object default ▸ λ allowed.
    number_or object BaseProductivity zero_fraction ▸ λ base_productivity.
    Ok (record { slots = slots; allowed = allowed; base_productivity = base_productivity })

-- the same of a drill, in its order, and whether it takes a fluid
unfoldable pub drill_rules_of : Object → Reading DrillRules
drill_rules_of object =
    slots_of object ▸ λ slots.
    number_or object BaseProductivity zero_fraction ▸ λ base_productivity.
    allowed_of object all_allowed ▸ λ allowed.
    object_at object InputFluidBox within.FluidBox ▸ λ fluid_box.
    Ok (record { modules = record { slots = slots; allowed = allowed; base_productivity = base_productivity }; fluid_box = is_some fluid_box })

-- the same of a beacon, which makes nothing
unfoldable pub beacon_rules_of : Object → Reading ModuleRules
beacon_rules_of object =
    slots_of object ▸ λ slots.
    allowed_of object none_allowed ▸ λ allowed.
    Ok (record { slots = slots; allowed = allowed; base_productivity = zero_fraction })

-- a machine that holds modules
abbrev pub fitted_machine : Section → RawKind → Source → Fraction → Fraction → ModuleRules → ℕ → RawMachine
fitted_machine section kind source usage drain rules parts = record {
  section = section;
  kind = kind;
  energy = source.energy;
  usage = usage;
  drain = drain_of source.energy source.drain drain;
  emissions = source.emissions;
  slots = rules.slots;
  allowed = rules.allowed;
  base_productivity = rules.base_productivity;
  parts = parts;
}

-- ---- how fast a machine works, and the categories of what it works on
unfoldable pub work_of : Object → Key → Key → Names → Reading (Work × Names)
work_of object speed_key categories_key names =
    required_positive object speed_key ▸ λ speed.
    required_list object categories_key ▸ λ elements.
    categories object categories_key elements names ▸ λ found.
    Ok (record { speed = speed; categories = found.0 }, found.1)

-- ---- assembling-machine, furnace, rocket-silo
unfoldable pub recipe_of : Section → Object → Reading (Option (List ℕ))
recipe_of section.Furnace object = Ok None
recipe_of section object = name object FixedRecipe

-- a silo puts 100 parts together to a rocket where it doesn't say how many
unfoldable pub parts_of : Section → Object → Reading ℕ
parts_of section.RocketSilo object = whole_or object RocketPartsRequired 100
parts_of section object = Ok 0

unfoldable pub crafter_rules_of : Section → Object → Reading CrafterRules
crafter_rules_of section object =
    module_rules_of object none_allowed ▸ λ rules.
    recipe_of section object ▸ λ recipe.
    parts_of section object ▸ λ parts.
    Ok (record { modules = rules; recipe = recipe; parts = parts })

unfoldable pub crafter_of : Section → Object → Names → Reading (RawMachine × Names)
crafter_of section object names =
    work_of object CraftingSpeed CraftingCategories names ▸ λ work.
    required_power object EnergyUsage ▸ λ usage.
    machine_source_of object work.1 ▸ λ source.
    crafter_rules_of section object ▸ λ rules.
    Ok (fitted_machine section (Crafter work.0.speed work.0.categories rules.recipe) source.0 usage (usage /ʳ whole_fraction (pos 30)) rules.modules rules.parts, source.1)

-- ---- mining-drill
unfoldable pub drill_of : Section → Object → Names → Reading (RawMachine × Names)
drill_of section object names =
    work_of object MiningSpeed ResourceCategories names ▸ λ work.
    required_power object EnergyUsage ▸ λ usage.
    machine_source_of object work.1 ▸ λ source.
    drill_rules_of object ▸ λ rules.
    Ok (fitted_machine section (Drill work.0.speed work.0.categories rules.fluid_box) source.0 usage zero_fraction rules.modules 0, source.1)

-- ---- a machine that has neither slots nor effects
abbrev pub plain_machine : Section → RawKind → Source → Fraction → RawMachine
plain_machine section kind source usage = record {
  section = section;
  kind = kind;
  energy = source.energy;
  usage = usage;
  drain = drain_of source.energy source.drain zero_fraction;
  emissions = source.emissions;
  slots = 0;
  allowed = none_allowed;
  base_productivity = zero_fraction;
  parts = 0;
}

-- what needs no energy
abbrev pub no_source : Source
no_source = record { energy = Void; drain = None; emissions = zero_fraction }

-- ---- offshore-pump
unfoldable pub pump_of : Section → Object → Reading RawMachine
pump_of section object =
    required_name object FluidKey ▸ λ fluid.
    required_positive object PumpingSpeed ▸ λ speed.
    Ok (plain_machine section (Pump fluid speed) no_source zero_fraction)

-- ---- boiler: in the mode that is the default, what comes out is what went in
abbrev pub heats_inside : Option (List ℕ) → Bool
heats_inside None = true
heats_inside (Some mode) = bytes_eq mode (codes "heat-water-inside")

unfoldable pub boiler_kind_of : Object → Reading RawKind
boiler_kind_of object =
    text object Mode ▸ λ mode.
    amount_or object TargetTemperature zero_fraction ▸ λ temperature.
    filter_of object FluidBox within.FluidBox ▸ λ input.
    filter_of object OutputFluidBox within.OutputFluidBox ▸ λ output.
    Ok (Boiler input output (heats_inside mode) temperature)

unfoldable pub boiler_of : Section → Object → Names → Reading (RawMachine × Names)
boiler_of section object names =
    machine_source_of object names ▸ λ source.
    required_power object EnergyConsumption ▸ λ usage.
    boiler_kind_of object ▸ λ kind.
    Ok (plain_machine section kind source.0 usage, source.1)

-- ---- generator
unfoldable pub generation_of : Object → Reading Generation
generation_of object =
    positive_or object Effectivity one_fraction ▸ λ effectivity.
    required_amount object FluidUsagePerTick ▸ λ per_tick.
    required_amount object MaximumTemperature ▸ λ max_temperature.
    flag_or object BurnsFluid false ▸ λ burns.
    power object MaxPowerOutput ▸ λ output.
    Ok (record { effectivity = effectivity; per_tick = per_tick; max_temperature = max_temperature; burns = burns; output = output })

unfoldable pub generator_of : Section → Object → Reading RawMachine
generator_of section object =
    filter_of object FluidBox within.FluidBox ▸ λ input.
    generation_of object ▸ λ made.
    Ok (plain_machine section (Generator input made.effectivity made.per_tick made.max_temperature made.burns made.output) no_source zero_fraction)

-- ---- burner-generator
unfoldable pub burner_generator_of : Section → Object → Names → Reading (RawMachine × Names)
burner_generator_of section object names =
    required_object object BurnerKey within.Burner ▸ λ burner.
    burner_source_of burner names ▸ λ source.
    required_power object MaxPowerOutput ▸ λ output.
    Ok (plain_machine section (BurnerGenerator output) source.0 zero_fraction, source.1)

-- ---- solar-panel
unfoldable pub solar_of : Section → Object → Reading RawMachine
solar_of section object =
    required_power object Production ▸ λ production.
    Ok (plain_machine section (Solar production) no_source zero_fraction)

-- ---- reactor
unfoldable pub reactor_of : Section → Object → Names → Reading (RawMachine × Names)
reactor_of section object names =
    machine_source_of object names ▸ λ source.
    required_power object Consumption ▸ λ usage.
    Ok (plain_machine section Reactor source.0 usage, source.1)

-- ---- lab
unfoldable pub lab_work_of : Object → Reading LabWork
lab_work_of object =
    required_list object Inputs ▸ λ elements.
    names_in object Inputs elements ▸ λ inputs.
    positive_or object ResearchingSpeed one_fraction ▸ λ speed.
    Ok (record { inputs = inputs; speed = speed })

unfoldable pub lab_of : Section → Object → Names → Reading (RawMachine × Names)
lab_of section object names =
    lab_work_of object ▸ λ work.
    required_power object EnergyUsage ▸ λ usage.
    machine_source_of object names ▸ λ source.
    module_rules_of object all_allowed ▸ λ rules.
    Ok (fitted_machine section (Lab work.inputs work.speed) source.0 usage zero_fraction rules 0, source.1)

-- ---- beacon
unfoldable pub beacon_of : Section → Object → Names → Reading (RawMachine × Names)
beacon_of section object names =
    required_amount object DistributionEffectivity ▸ λ effectivity.
    required_power object EnergyUsage ▸ λ usage.
    machine_source_of object names ▸ λ source.
    beacon_rules_of object ▸ λ rules.
    Ok (fitted_machine section (Beacon effectivity) source.0 usage zero_fraction rules 0, source.1)

-- ---- a machine of a section
abbrev pub machine_by : Section → Object → Names → Reading (RawMachine × Names)
machine_by section.MiningDrill object names = drill_of section.MiningDrill object names
machine_by section.OffshorePump object names = with_names names (pump_of section.OffshorePump object)
machine_by section.Boiler object names = boiler_of section.Boiler object names
machine_by section.Generator object names = with_names names (generator_of section.Generator object)
machine_by section.BurnerGenerator object names = burner_generator_of section.BurnerGenerator object names
machine_by section.SolarPanel object names = with_names names (solar_of section.SolarPanel object)
machine_by section.Reactor object names = reactor_of section.Reactor object names
machine_by section.Lab object names = lab_of section.Lab object names
machine_by section.Beacon object names = beacon_of section.Beacon object names
machine_by section object names = crafter_of section object names

unfoldable pub machine_of : Section → Object → Names → Reading (RawMachine × Names)
machine_of section object names = machine_by section object names
