-- What is mined, as a dump has it: the tables of its fields, in the order in which they are read. Fields and defaults are
-- those of the prototype documentation of Factorio 1.1. Only what can be mined is a source.
use Rattle.std.specs.Prelude.{ℕ, pos, Bool, true, false, is_some, List, [], Option, Some, None, Ok, unwrap_or, codes}
use Rattle.fractions.specs.Fraction.{Fraction, zero_fraction, one_fraction, whole_fraction, ◌/ʳ◌}
use Rattle.prototype_fields.specs.declared.names.Key.TheVariants.{Minable, Category, Autoplace, MiningTime, Count, RequiredFluid, FluidAmount}
use Rattle.prototype_fields.specs.declared.names.Within.TheVariants as within
use Rattle.prototype_fields.specs.Objects.{Object}
use Rattle.prototype_fields.specs.Values.{Reading, ◌▸◌, Names, name, name_or, category, object_at, required_positive, amount}
use Rattle.craft_reader.specs.Goods.{products}
use Rattle.craft_reader.specs.declared.given.RawProduct.{RawProduct}
use Rattle.dump_reader.specs.declared.raw.RawSource.{RawSource}
use Rattle.machine_reader.specs.declared.sections.Section.{Section}

-- no products where none are named
abbrev pub or_none : Option (List RawProduct) → List RawProduct
or_none found = unwrap_or found []

-- ---- resource: the amount of fluid is that of ten operations
abbrev pub tenth_of : Option Fraction → Fraction
tenth_of None = zero_fraction
tenth_of (Some amount) = amount /ʳ whole_fraction (pos 10)

abbrev pub fluid_taken : Option (List ℕ) → Option Fraction → Option (List ℕ × Fraction)
fluid_taken None amount = None
fluid_taken (Some fluid) amount = Some (fluid, tenth_of amount)

unfoldable pub taken_of : Object → Reading (Option (List ℕ × Fraction))
taken_of minable =
    name minable RequiredFluid ▸ λ fluid.
    amount minable FluidAmount ▸ λ amount.
    Ok (fluid_taken fluid amount)

unfoldable pub drilled_of : Section → ℕ → Bool → Object → Reading RawSource
drilled_of section category placed minable =
    required_positive minable MiningTime ▸ λ time.
    products within.MinableResults minable Count ▸ λ products.
    taken_of minable ▸ λ fluid.
    Ok (record { section = section; drilled = true; category = category; time = time; placed = placed; products = or_none products; fluid = fluid })

abbrev pub if_minable : (Object → Reading RawSource) → Option Object → Reading (Option RawSource)
if_minable read None = Ok None
if_minable read (Some minable) = read minable ▸ λ source. Ok (Some source)

unfoldable pub mined_of : Section → ℕ → Bool → Option Object → Reading (Option RawSource)
mined_of section category placed minable = if_minable (drilled_of section category placed) minable

unfoldable pub category_of : Object → Names → Reading (ℕ × Names)
category_of object names =
    name_or object Category (codes "basic-solid") ▸ λ spelled.
    category object Category spelled names

unfoldable pub resource_of : Section → Object → Names → Reading (Option RawSource × Names)
resource_of section object names =
    object_at object Minable within.Minable ▸ λ minable.
    category_of object names ▸ λ found.
    object_at object Autoplace within.Prototype ▸ λ autoplace.
    mined_of section found.0 (is_some autoplace) minable ▸ λ source.
    Ok (source, found.1)

-- ---- tree, simple-entity, fish: no drill mines them, and they take one second
unfoldable pub gathered_of : Section → Bool → Object → Reading RawSource
gathered_of section placed minable =
    products within.MinableResults minable Count ▸ λ products.
    Ok (record { section = section; drilled = false; category = 0; time = one_fraction; placed = placed; products = or_none products; fluid = None })

unfoldable pub plant_of : Section → Object → Reading (Option RawSource)
plant_of section object =
    object_at object Minable within.Minable ▸ λ minable.
    object_at object Autoplace within.Prototype ▸ λ autoplace.
    if_minable (gathered_of section (is_some autoplace)) minable
