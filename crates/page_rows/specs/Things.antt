-- Things with their kinds and names, as they stand on a page.
use Rattle.std.specs.Prelude.{ℕ, ◌+◌, ◌-◌, ◌==◌, nat_lt, List, [], ◌∷◌, ◌++◌, codes, decimal, length, if◌then◌else◌, slice_index_or}
use Rattle.plan_base.specs.declared.ids.GoodId.{GoodId}
use Rattle.plan_base.specs.declared.shape.Kind.{Kind}
use Rattle.plan_base.specs.declared.shape.Kind.TheVariants.{Special, Item, Fluid, Recipe, Source, Machine, Tech}
use Rattle.script_reader.specs.Fields.{kind_word}
use Rattle.game_types.specs.declared.games.Game.{Game}
use Rattle.game_types.specs.declared.setups.Activity.{Activity}
use Rattle.game_types.specs.declared.setups.Activity.TheVariants.{Craft, Mine, Pump, Generate, Boil, Research}
use Rattle.game_types.specs.Goods.{solid_and_fluid}
use Rattle.page_parts.specs.Escape.{escaped}
use Rattle.page_rows.specs.declared.things.Thing.{Thing}

-- the special things: the character, electricity, which is a good, and heat
abbrev pub special_name : ℕ → List ℕ
special_name index = if index == 0 then codes "character" else if index == 2 then codes "heat" else codes "electricity"

-- the name at a place among those of a kind, empty past the last
abbrev pub thing_name : Game → Kind → ℕ → List ℕ
thing_name g Special index = special_name index
thing_name g Item index = slice_index_or g.item_names index []
thing_name g Fluid index = slice_index_or g.fluid_names index []
thing_name g Recipe index = slice_index_or g.recipe_names index []
thing_name g Source index = slice_index_or g.source_names index []
thing_name g Machine index = slice_index_or g.machine_names index []
thing_name g Tech index = slice_index_or g.tech_names index []

-- the thing that a good of a table is: behind the items and the fluids stands electric power, and behind it each technology
unfoldable pub good_thing : Game → GoodId → Thing
good_thing g good =
    if nat_lt good.0 (length g.items) then record { kind = Item; index = good.0 }
    else if nat_lt good.0 (solid_and_fluid g) then record { kind = Fluid; index = good.0 - length g.items }
    else if good.0 == solid_and_fluid g then record { kind = Special; index = 1 }
    else record { kind = Tech; index = good.0 - (solid_and_fluid g + 1) }

-- the thing that a row makes, mines, pumps, heats or researches
abbrev pub activity_thing : Game → Activity → Thing
activity_thing g (Craft recipe) = record { kind = Recipe; index = recipe.0 }
activity_thing g (Mine source) = record { kind = Source; index = source.0 }
activity_thing g (Pump good) = good_thing g good
activity_thing g Generate = record { kind = Special; index = 1 }
activity_thing g (Boil good) = good_thing g good
activity_thing g (Research tech) = record { kind = Tech; index = tech.0 }

-- the place of the picture of a thing
abbrev pub picture_text : List ℕ → ℕ → List ℕ
picture_text kind index = codes "<svg class=\"i\" aria-hidden=\"true\"><use href=\"#" ++ (kind ++ (codes "-" ++ (decimal index ++ codes "\"/></svg>")))

-- a name behind the place of a picture
abbrev pub marked_text : List ℕ → List ℕ → List ℕ → List ℕ
marked_text kind name picture =
    codes "<span class=\"" ++ (kind ++ (codes "\" title=\"" ++ (kind ++ (codes ":" ++ (name ++ (codes "\">" ++ (picture ++ (name ++ codes "</span>"))))))))

-- a thing with its name, marked by its kind, and with a place for its picture
unfoldable pub thing_text : Game → Kind → ℕ → List ℕ
thing_text g kind index = marked_text (kind_word kind) (escaped (thing_name g kind index)) (picture_text (kind_word kind) index)
