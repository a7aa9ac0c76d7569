-- Ingredients, products and science packs, with names in place of ids. Their forms are those of the prototype documentation
-- of Factorio 1.1, in the profile of docs/DUMP.md.
use Rattle.std.specs.Prelude.{ℕ, Bool, true, false, if◌then◌else◌, List, [], ◌∷◌, Option, None, Some, Ok, codes}
use Rattle.std.specs.Str.{bytes_eq}
use Rattle.json_text.specs.Kept.{Kept}
use Rattle.fractions.specs.Fraction.{Fraction, zero_fraction, one_fraction}
use Rattle.prototype_fields.specs.declared.names.Key.{Key}
use Rattle.prototype_fields.specs.declared.names.Key.TheVariants as k
use Rattle.prototype_fields.specs.declared.names.Within.{Within}
use Rattle.prototype_fields.specs.declared.names.Within.TheVariants as w
use Rattle.prototype_fields.specs.declared.fault.FieldCode.TheVariants.{WrongKind}
use Rattle.prototype_fields.specs.Numbers.{is_less}
use Rattle.prototype_fields.specs.Objects.{Object, Member, as_object, as_list, field, pair_members}
use Rattle.prototype_fields.specs.Values.{Reading, ◌▸◌, amount, amount_or, each, name, number, of_kind, required_amount, required_name, short_list, text, wrong, wrong_element}
use Rattle.craft_reader.specs.declared.goods.GoodKind.{GoodKind}
use Rattle.craft_reader.specs.declared.goods.GoodKind.TheVariants.{Item, Fluid}
use Rattle.craft_reader.specs.declared.goods.NamedGood.{NamedGood}
use Rattle.craft_reader.specs.declared.goods.RawPack.{RawPack}
use Rattle.craft_reader.specs.declared.goods.RawPart.{RawPart}
use Rattle.craft_reader.specs.declared.given.RawProduct.{RawProduct}

-- ---- forms
-- an element of a list of ingredients or products: an object, or a list of a name and an amount, which stands for one
pub record FormOf : Type 0 where
  pub object : Object
  pub listed : Bool

abbrev pub pair_form : Within → List Kept → Reading FormOf
pair_form within elements = Ok (record { object = record { within = within; members = pair_members elements }; listed = true })

abbrev pub list_form : Within → Option (List Kept) → Reading FormOf
list_form within (Some (name ∷ [])) = pair_form within (name ∷ [])
list_form within (Some (name ∷ amount ∷ [])) = pair_form within (name ∷ amount ∷ [])
list_form within other = wrong_element WrongKind within

abbrev pub object_form : Within → Kept → Option (List Member) → Reading FormOf
object_form within element (Some members) = Ok (record { object = record { within = within; members = members }; listed = false })
object_form within element None = list_form within (as_list element)

unfoldable pub form_of : Within → Kept → Reading FormOf
form_of within element = object_form within element (as_object element)

-- ---- goods
abbrev pub kind_of : List ℕ → Option GoodKind
kind_of spelled = if bytes_eq spelled (codes "item") then Some Item else if bytes_eq spelled (codes "fluid") then Some Fluid else None

abbrev pub kind_named : Object → Option (List ℕ) → Reading GoodKind
kind_named object None = Ok Item
kind_named object (Some spelled) = of_kind object k.TypeName (kind_of spelled)

unfoldable pub good_kind : Object → Reading GoodKind
good_kind object = text object k.TypeName ▸ kind_named object

unfoldable pub named_good : Object → Reading NamedGood
named_good object =
    good_kind object ▸ λ kind.
    required_name object k.Name ▸ λ name.
    Ok (record { kind = kind; name = name; within = object.within; key = k.Name })

-- the amount of an ingredient
unfoldable pub form_amount : FormOf → Reading Fraction
form_amount form = if form.listed then amount_or form.object k.Amount one_fraction else required_amount form.object k.Amount

-- ---- ingredients
-- the least and the greatest temperature of an ingredient
abbrev pub Bounds : Type 0
Bounds = Option Fraction × Option Fraction

abbrev pub bounds_beside : Object → Option Fraction → Reading Bounds
bounds_beside object (Some temperature) = Ok (Some temperature, Some temperature)
bounds_beside object None =
    number object k.MinimumTemperature ▸ λ low.
    number object k.MaximumTemperature ▸ λ high.
    Ok (low, high)

abbrev pub bounds_of : Object → GoodKind → Reading Bounds
bounds_of object Item = Ok (None, None)
bounds_of object Fluid = number object k.Temperature ▸ bounds_beside object

unfoldable pub temperatures : Object → GoodKind → Reading Bounds
temperatures object kind = bounds_of object kind

unfoldable pub ingredient : Within → Kept → Reading RawPart
ingredient within element =
    form_of within element ▸ λ form.
    named_good form.object ▸ λ good.
    form_amount form ▸ λ amount.
    temperatures form.object good.kind ▸ λ bounds.
    Ok (record { good = good; amount = amount; low = bounds.0; high = bounds.1 })

-- ---- science packs, which are items
abbrev pub only_item : Object → GoodKind → Reading GoodKind
only_item object Item = Ok Item
only_item object Fluid = wrong WrongKind object k.TypeName

unfoldable pub pack : Within → Kept → Reading RawPack
pack within element =
    form_of within element ▸ λ form.
    good_kind form.object ▸ λ kind.
    only_item form.object kind ▸ λ item.
    required_name form.object k.Name ▸ λ name.
    form_amount form ▸ λ amount.
    Ok (record { name = name; amount = amount })

-- ---- products
-- the least and the greatest amount of a product
abbrev pub Range : Type 0
Range = Fraction × Fraction

abbrev pub range_beside : Object → Option Fraction → Reading Range
range_beside object (Some amount) = Ok (amount, amount)
range_beside object None =
    required_amount object k.AmountMin ▸ λ low.
    required_amount object k.AmountMax ▸ λ high.
    Ok (low, if is_less high low then low else high)

unfoldable pub product_range : FormOf → Reading Range
product_range form = if form.listed then (amount_or form.object k.Amount one_fraction ▸ λ amount. Ok (amount, amount)) else (amount form.object k.Amount ▸ range_beside form.object)

abbrev pub at_most_one : Fraction → Fraction
at_most_one probability = if is_less one_fraction probability then one_fraction else probability

unfoldable pub product : Within → Kept → Reading RawProduct
product within element =
    form_of within element ▸ λ form.
    named_good form.object ▸ λ good.
    product_range form ▸ λ range.
    amount_or form.object k.Probability one_fraction ▸ λ probability.
    amount_or form.object k.CatalystAmount zero_fraction ▸ λ catalyst.
    number form.object k.Temperature ▸ λ temperature.
    Ok (record { good = good; low = range.0; high = range.1; probability = at_most_one probability; catalyst = catalyst; temperature = temperature })

-- ---- what a launch brings back, which are items: a list of products, or where that is absent one product
unfoldable pub item_product : Within → Kept → Reading RawProduct
item_product within element =
    form_of within element ▸ λ form.
    good_kind form.object ▸ λ kind.
    only_item form.object kind ▸ λ item.
    product within element

abbrev pub lone_launch : Option Kept → Reading (List RawProduct)
lone_launch None = Ok []
lone_launch (Some element) = item_product w.RocketLaunchProduct element ▸ λ product. Ok (product ∷ [])

abbrev pub listed_launch : Object → Option (List Kept) → Reading (List RawProduct)
listed_launch object (Some elements) = each (item_product w.RocketLaunchProducts) elements
listed_launch object None = lone_launch (field object k.RocketLaunchProduct)

unfoldable pub launch_products : Object → Reading (List RawProduct)
launch_products object = short_list object k.RocketLaunchProducts ▸ listed_launch object

-- ---- products of recipes and of what is mined
-- the product of a lone name, with its count under a key
unfoldable pub lone_product : Object → Key → List ℕ → Reading RawProduct
lone_product object count_key name =
    amount_or object count_key one_fraction ▸ λ count.
    Ok (record { good = record { kind = Item; name = name; within = object.within; key = k.ResultName }; low = count; high = count; probability = one_fraction; catalyst = zero_fraction; temperature = None })

abbrev pub lone_products : Object → Key → Option (List ℕ) → Reading (Option (List RawProduct))
lone_products object count_key None = Ok None
lone_products object count_key (Some name) = lone_product object count_key name ▸ λ product. Ok (Some (product ∷ []))

abbrev pub listed_products : Within → Object → Key → Option (List Kept) → Reading (Option (List RawProduct))
listed_products within object count_key (Some elements) = each (product within) elements ▸ λ products. Ok (Some products)
listed_products within object count_key None = name object k.ResultName ▸ lone_products object count_key

-- the products of `results`, or where that is absent the one of `result`, where that is there
unfoldable pub products : Within → Object → Key → Reading (Option (List RawProduct))
products within object count_key = short_list object k.Results ▸ listed_products within object count_key
