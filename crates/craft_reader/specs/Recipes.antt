-- Recipes, with names in place of ids. Their fields are those of the prototype documentation of Factorio 1.1.
use Rattle.std.specs.Prelude.{Bool, true, false, not, ◌&&◌, List, Option, None, Some, Ok, option_and_then, option_map, is_some, pos, codes}
use Rattle.json_text.specs.Kept.{Kept}
use Rattle.json_text.specs.Kept as kept
use Rattle.fractions.specs.Fraction.{frac, one_fraction}
use Rattle.prototype_fields.specs.declared.names.Key.{Key}
use Rattle.prototype_fields.specs.declared.names.Key.TheVariants as k
use Rattle.prototype_fields.specs.declared.names.Within.TheVariants as w
use Rattle.prototype_fields.specs.Objects.{Object, as_object, field}
use Rattle.prototype_fields.specs.Values.{Reading, ◌▸◌, Names, amount_or, category, each, flag_or, name_or, object_element, positive_or, required, required_short_list}
use Rattle.craft_reader.specs.Goods.{ingredient, products}
use Rattle.craft_reader.specs.declared.goods.RawPart.{RawPart}
use Rattle.craft_reader.specs.declared.given.RawProduct.{RawProduct}
use Rattle.craft_reader.specs.declared.recipes.RawRecipe.{RawRecipe}

-- ---- the chosen object: `normal` where it is an object, else `expensive` where it is one, else the prototype itself
unfoldable pub object_under : Object → Key → Option Object
object_under prototype key = option_map (λ members. record { within = prototype.within; members = members }) (option_and_then as_object (field prototype key))

abbrev pub first_of : Object → Option Object → Option Object → Object
first_of prototype (Some normal) expensive = normal
first_of prototype None (Some expensive) = expensive
first_of prototype None None = prototype

unfoldable pub chosen : Object → Object
chosen prototype = first_of prototype (object_under prototype k.Normal) (object_under prototype k.Expensive)

abbrev pub is_false : Option Kept → Bool
is_false (Some (kept.flag at b)) = not b
is_false value = false

-- whether `expensive` is chosen where `normal` is `false`, which switches the prototype off
unfoldable pub is_switched_off : Object → Bool
is_switched_off prototype = is_some (object_under prototype k.Expensive) && is_false (field prototype k.Normal)

-- ---- the lists of a recipe
unfoldable pub ingredients_of : Object → Reading (List RawPart)
ingredients_of object = required_short_list object k.Ingredients ▸ λ elements. each (ingredient w.Ingredients) elements

unfoldable pub products_of : Object → Reading (List RawProduct)
products_of object = products w.Results object k.ResultCount ▸ required object k.Results

-- ---- recipes, and the names of the categories that were seen up to them
abbrev pub raw_recipe : Object → Names → Reading (RawRecipe × Names)
raw_recipe prototype names =
    name_or prototype k.Category (codes "crafting") ▸ λ name.
    category prototype k.Category name names ▸ λ category.
    ingredients_of (chosen prototype) ▸ λ ingredients.
    products_of (chosen prototype) ▸ λ products.
    positive_or (chosen prototype) k.EnergyRequired (frac (pos 1) 2) ▸ λ time.
    flag_or (chosen prototype) k.Enabled true ▸ λ enabled.
    amount_or (chosen prototype) k.EmissionsMultiplier one_fraction ▸ λ emissions.
    Ok (record { category = category.0; time = time; enabled = enabled && not (is_switched_off prototype); emissions = emissions; ingredients = ingredients; products = products }, category.1)

unfoldable pub recipe_of : Kept → Names → Reading (RawRecipe × Names)
recipe_of value names = object_element w.Prototype value ▸ λ prototype. raw_recipe prototype names
