-- The energy source of a machine as a dump has it: the table of its fields, in the order in which they are read. Fields and
-- defaults are those of the prototype documentation of Factorio 1.1.
use Rattle.std.specs.Prelude.{ℕ, List, ◌∷◌, [], Option, Some, None, Ok, codes, if◌then◌else◌}
use Rattle.std.specs.Str.{bytes_eq}
use Rattle.json_text.specs.Kept.{Kept}
use Rattle.fractions.specs.Fraction.{Fraction, zero_fraction, one_fraction}
use Rattle.prototype_fields.specs.declared.names.Key.TheVariants.{TypeName, EmissionsPerMinute, EnergySource, Drain, FuelCategories, FuelCategory, Effectivity, FluidBox, Filter}
use Rattle.prototype_fields.specs.declared.names.Within.{Within}
use Rattle.prototype_fields.specs.declared.names.Within.TheVariants as within
use Rattle.prototype_fields.specs.declared.names.Key.{Key}
use Rattle.prototype_fields.specs.Objects.{Object}
use Rattle.prototype_fields.specs.Values.{Reading, ◌▸◌, Names, text, required, of_kind, name, name_or, number_or, positive_or, power, list, category, categories, required_object, object_or_empty}
use Rattle.machine_reader.specs.declared.energy.Source.{Source}
use Rattle.machine_reader.specs.declared.energy.EnergyKind.{EnergyKind}
use Rattle.machine_reader.specs.declared.energy.EnergyKind.TheVariants as kind
use Rattle.machine_reader.specs.declared.raw.RawEnergy.{RawEnergy}
use Rattle.machine_reader.specs.declared.raw.RawEnergy.TheVariants.{Electric, Burner, Heat, Fluid, Void}

-- the fluid that a box is filtered to
unfoldable pub filter_of : Object → Key → Within → Reading (Option (List ℕ))
filter_of object key path =
    object_or_empty object key path ▸ λ box.
    name box Filter

-- ---- burners: the list of categories, or where it is absent one category, "chemical" where that is absent too
abbrev pub one_category : Object → Names → Reading (List ℕ × Names)
one_category object names =
    name_or object FuelCategory (codes "chemical") ▸ λ name.
    category object FuelCategory name names ▸ λ found.
    Ok (found.0 ∷ [], found.1)

abbrev pub fuel_categories_in : Object → Option (List Kept) → Names → Reading (List ℕ × Names)
fuel_categories_in object (Some elements) names = categories object FuelCategories elements names
fuel_categories_in object None names = one_category object names

unfoldable pub fuel_categories_of : Object → Names → Reading (List ℕ × Names)
fuel_categories_of object names =
    list object FuelCategories ▸ λ elements.
    fuel_categories_in object elements names

unfoldable pub burner_of : Object → Names → Reading (RawEnergy × Names)
burner_of object names =
    fuel_categories_of object names ▸ λ found.
    positive_or object Effectivity one_fraction ▸ λ effectivity.
    Ok (Burner found.0 effectivity, found.1)

-- ---- other kinds
unfoldable pub fluid_energy_of : Object → Reading RawEnergy
fluid_energy_of object =
    filter_of object FluidBox within.EnergySourceFluidBox ▸ λ filter.
    positive_or object Effectivity one_fraction ▸ λ effectivity.
    Ok (Fluid filter effectivity)

-- ---- sources
abbrev pub kind_named : List ℕ → Option EnergyKind
kind_named text =
    if bytes_eq text (codes "electric") then Some kind.Electric
    else if bytes_eq text (codes "burner") then Some kind.Burner
    else if bytes_eq text (codes "heat") then Some kind.Heat
    else if bytes_eq text (codes "fluid") then Some kind.Fluid
    else if bytes_eq text (codes "void") then Some kind.Void
    else None

unfoldable pub kind_of : Object → Reading EnergyKind
kind_of object =
    text object TypeName ▸ λ found.
    required object TypeName found ▸ λ named.
    of_kind object TypeName (kind_named named)

-- the energy of a kind, and its drain where one is given
abbrev pub source_by : Object → Names → Fraction → EnergyKind → Reading (Source × Names)
source_by object names emissions kind.Electric = power object Drain ▸ λ drain. Ok (record { energy = Electric; drain = drain; emissions = emissions }, names)
source_by object names emissions kind.Burner = burner_of object names ▸ λ found. Ok (record { energy = found.0; drain = None; emissions = emissions }, found.1)
source_by object names emissions kind.Heat = Ok (record { energy = Heat; drain = None; emissions = emissions }, names)
source_by object names emissions kind.Fluid = fluid_energy_of object ▸ λ energy. Ok (record { energy = energy; drain = None; emissions = emissions }, names)
source_by object names emissions kind.Void = Ok (record { energy = Void; drain = None; emissions = emissions }, names)

unfoldable pub source_of : Object → Names → Reading (Source × Names)
source_of object names =
    kind_of object ▸ λ named.
    number_or object EmissionsPerMinute zero_fraction ▸ λ emissions.
    source_by object names emissions named

-- the source of a machine
unfoldable pub machine_source_of : Object → Names → Reading (Source × Names)
machine_source_of object names =
    required_object object EnergySource within.EnergySource ▸ λ source_object.
    source_of source_object names

-- a source that burns, whose kind isn't read
unfoldable pub burner_source_of : Object → Names → Reading (Source × Names)
burner_source_of object names =
    number_or object EmissionsPerMinute zero_fraction ▸ λ emissions.
    burner_of object names ▸ λ found.
    Ok (record { energy = found.0; drain = None; emissions = emissions }, found.1)
