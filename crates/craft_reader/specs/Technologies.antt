-- Technologies, with names in place of ids. Their fields are those of the prototype documentation of Factorio 1.1.
use Rattle.std.specs.Prelude.{ℕ, true, not, ◌&&◌, if◌then◌else◌, List, Option, None, Some, Ok, codes}
use Rattle.std.specs.Str.{bytes_eq}
use Rattle.json_text.specs.Kept.{Kept}
use Rattle.prototype_fields.specs.declared.names.Key.TheVariants as k
use Rattle.prototype_fields.specs.declared.names.Within.TheVariants as w
use Rattle.prototype_fields.specs.Objects.{Object}
use Rattle.prototype_fields.specs.Values.{Reading, ◌▸◌, amount, each, each_found, flag_or, names_in, object_element, required_amount, required_name, required_object, required_short_list, short_list_or_empty, text}
use Rattle.craft_reader.specs.Goods.{pack}
use Rattle.craft_reader.specs.Recipes.{chosen, is_switched_off}
use Rattle.craft_reader.specs.declared.goods.RawPack.{RawPack}
use Rattle.craft_reader.specs.declared.technologies.RawTech.{RawTech}

-- the recipe that an effect unlocks; effects of other types are passed over
abbrev pub unlock_by : Object → Option (List ℕ) → Reading (Option (List ℕ))
unlock_by effect None = Ok None
unlock_by effect (Some spelled) = if bytes_eq spelled (codes "unlock-recipe") then (required_name effect k.Recipe ▸ λ recipe. Ok (Some recipe)) else Ok None

unfoldable pub unlock : Kept → Reading (Option (List ℕ))
unlock element = object_element w.Effects element ▸ λ effect. text effect k.TypeName ▸ unlock_by effect

-- ---- the lists of a technology
unfoldable pub prerequisites_of : Object → Reading (List (List ℕ))
prerequisites_of object = short_list_or_empty object k.Prerequisites ▸ λ elements. names_in object k.Prerequisites elements

unfoldable pub packs_of : Object → Reading (List RawPack)
packs_of unit = required_short_list unit k.Ingredients ▸ λ elements. each (pack w.UnitIngredients) elements

unfoldable pub unlocks_of : Object → Reading (List (List ℕ))
unlocks_of object = short_list_or_empty object k.Effects ▸ λ elements. each_found unlock elements

-- ---- technologies
abbrev pub raw_tech : Object → Reading RawTech
raw_tech prototype =
    flag_or (chosen prototype) k.Enabled true ▸ λ enabled.
    prerequisites_of (chosen prototype) ▸ λ prerequisites.
    required_object (chosen prototype) k.Unit w.Unit ▸ λ unit.
    packs_of unit ▸ λ ingredients.
    amount unit k.Count ▸ λ count.
    required_amount unit k.Time ▸ λ time.
    unlocks_of (chosen prototype) ▸ λ unlocks.
    Ok (record { enabled = enabled && not (is_switched_off prototype); prerequisites = prerequisites; unlocks = unlocks; ingredients = ingredients; count = count; time = time })

unfoldable pub tech_of : Kept → Reading RawTech
tech_of value = object_element w.Prototype value ▸ λ prototype. raw_tech prototype
