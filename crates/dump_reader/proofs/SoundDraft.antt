-- One prototype more keeps a draft sound: it gets a name and a node, and what is read of it is sound.
use Rattle.std.specs.Prelude.{◌≡◌, ℕ, ◌+◌, ◌≤◌, Bool, true, false, cond, ◌||◌, if◌then◌else◌, is_some, nat_le, List, [], ◌∷◌, ◌++◌, Option, None, Some, Ok, length}
use Rattle.std.proofs.Common.{refl, ap, ◌∙◌, arith, length-append}
use Rattle.std.proofs.lemmas.Bool.Decides.{nat_tests}
use Rattle.std.proofs.lemmas.List.Elements.{All-push}
use Rattle.name_table.specs.Names.{place_of, with_name}
use Rattle.game_types.specs.declared.goods.Fluid.{Fluid}
use Rattle.game_types.specs.Nodes.{node_limit}
use Rattle.prototype_fields.specs.declared.fault.FieldCode.TheVariants.{Twice, Limit}
use Rattle.prototype_fields.specs.declared.names.Key.TheVariants.{Minable, Autoplace, CraftingCategories, MiningCategories}
use Rattle.prototype_fields.specs.declared.names.Within.TheVariants as within
use Rattle.prototype_fields.specs.Objects.{Object, field}
use Rattle.prototype_fields.specs.Values.{Reading, Names, wrong_element, object_at}
use Rattle.prototype_fields.proofs.Yields.{Yields, and_then, whatever, weaker, with_names_yields, object_there}
use Rattle.craft_reader.specs.Recipes.{raw_recipe}
use Rattle.craft_reader.specs.Technologies.{raw_tech}
use Rattle.craft_reader.specs.declared.recipes.RawRecipe.{RawRecipe}
use Rattle.craft_reader.specs.declared.technologies.RawTech.{RawTech}
use Rattle.dump_reader.specs.declared.raw.RawItem.{RawItem}
use Rattle.machine_reader.specs.declared.raw.RawMachine.{RawMachine}
use Rattle.dump_reader.specs.declared.raw.RawSource.{RawSource}
use Rattle.machine_reader.specs.declared.sections.Class.{Class}
use Rattle.machine_reader.specs.declared.sections.Class.TheVariants as class
use Rattle.machine_reader.specs.declared.sections.Section.{Section}
use Rattle.machine_reader.specs.declared.sections.Section.TheVariants as section
use Rattle.dump_reader.specs.Sources.{category_of, gathered_of, if_minable, drilled_of, mined_of, resource_of, plant_of}
use Rattle.dump_reader.specs.Draft.{RawGame, Taken, taken, taken_beside, source_taken, source_by, source_of, one_more, with_item, with_fluid, with_recipe, with_tech, with_source, with_machine, categories_at, with_character, with_entry, with_prototype, empty_game}
use Rattle.machine_reader.specs.Sections.{class_of}
use Rattle.machine_reader.specs.Sound.{IsSoundRawMachine}
use Rattle.dump_reader.specs.Sound.{IsSoundDraft, IsSoundRawItem}
use Rattle.dump_reader.proofs.SoundGoods.{fluid_plain, item_sound}
use Rattle.machine_reader.proofs.SoundMachines.{machine_sound}

-- ---- a name and a node more, where there is one
record IsTaken (there : Bool) (names : Names) (nodes : ℕ) (t : Taken) : Type 0 where
  named : length t.0 ≡ length names + cond there 1 0
  counted : t.1 ≡ nodes + cond there 1 0
  few : t.1 ≤ node_limit

longer : {X : Type 0} (xs : List X) (x : X) → length (xs ++ x ∷ []) ≡ length xs + 1
longer xs x = length-append xs (x ∷ [])

below_limit : (limit nodes : ℕ) → nat_le limit nodes ≡ false → nodes + 1 ≤ limit
below_limit limit nodes h = grind (arith, nat_tests)

new_name : (names : Names) (nodes : ℕ) (name : List ℕ) → is_some (place_of names name) ≡ false → nat_le node_limit nodes ≡ false → IsTaken true names nodes (with_name names name, nodes + 1)
new_name names nodes name new room =
    record {
      named = ap (λ test. length (if test then names else names ++ name ∷ [])) new ∙ longer names name;
      counted = refl;
      few = below_limit node_limit nodes room;
    }

taken_yields : (names : Names) (nodes : ℕ) (name : List ℕ) → Yields (taken names nodes name) (IsTaken true names nodes)
unfolding taken
taken_yields names nodes name = by_tests (is_some (place_of names name)) (nat_le node_limit nodes) (nat_le 131072 (length names)) (new_name names nodes name)
  where
    by_tests : (there full long : Bool) → (there ≡ false → full ≡ false → IsTaken true names nodes (with_name names name, nodes + 1))
        → Yields (if there then wrong_element Twice within.Prototype else if full || long then wrong_element Limit within.Prototype else Ok (with_name names name, nodes + 1)) (IsTaken true names nodes)
    by_tests true full long h = record { holds = tt }
    by_tests false true long h = record { holds = tt }
    by_tests false false true h = record { holds = tt }
    by_tests false false false h = record { holds = h refl refl }

beside_yields : (names others : Names) (nodes : ℕ) (name : List ℕ) → Yields (taken_beside names others nodes name) (IsTaken true names nodes)
unfolding taken_beside
beside_yields names others nodes name = by_test (is_some (place_of others name))
  where
    by_test : (there : Bool) → Yields (if there then wrong_element Twice within.Prototype else taken names nodes name) (IsTaken true names nodes)
    by_test true = record { holds = tt }
    by_test false = taken_yields names nodes name

source_taken_yields : (object : Object) (name : List ℕ) (g : RawGame) → g.nodes ≤ node_limit → Yields (source_taken object name g) (IsTaken (is_some (field object Minable)) g.source_names g.nodes)
unfolding source_taken
source_taken_yields object name g few = by_test (is_some (field object Minable))
  where
    by_test : (there : Bool) → Yields (if there then taken_beside g.source_names g.machine_names g.nodes name else Ok (g.source_names, g.nodes)) (IsTaken there g.source_names g.nodes)
    by_test true = beside_yields g.source_names g.machine_names g.nodes name
    by_test false = record { holds = record { named = omega arith; counted = omega arith; few = few } }

-- ---- a source is there where the entity can be mined
minable_there : (read : Object → Reading RawSource) (minable : Option Object) → Yields (if_minable read minable) (λ source. is_some source ≡ is_some minable)
minable_there read None = record { holds = refl }
minable_there read (Some minable) = whatever (read minable) λ source. record { holds = refl }

mined_there : (section : Section) (category : ℕ) (placed : Bool) (minable : Option Object) → Yields (mined_of section category placed minable) (λ source. is_some source ≡ is_some minable)
unfolding mined_of
mined_there section category placed minable = minable_there (drilled_of section category placed) minable

resource_there : (section : Section) (object : Object) (names : Names) → Yields (resource_of section object names) (λ found. is_some found.0 ≡ is_some (field object Minable))
unfolding resource_of
resource_there section object names =
    and_then (object_there object Minable within.Minable) λ minable there.
    whatever (category_of object names) λ found.
    whatever (object_at object Autoplace within.Prototype) λ autoplace.
    and_then (mined_there section found.0 (is_some autoplace) minable) λ source same.
    record { holds = same ∙ there }

plant_there : (section : Section) (object : Object) → Yields (plant_of section object) (λ found. is_some found ≡ is_some (field object Minable))
unfolding plant_of
plant_there section object =
    and_then (object_there object Minable within.Minable) λ minable there.
    whatever (object_at object Autoplace within.Prototype) λ autoplace.
    weaker (minable_there (gathered_of section (is_some autoplace)) minable) λ source same.
    same ∙ there

by_section : (section : Section) (object : Object) (names : Names) → Yields (source_by section object names) (λ found. is_some found.0 ≡ is_some (field object Minable))
by_section section.Resource object names = resource_there section.Resource object names
by_section section object names = with_names_yields names (plant_there section object)

source_there : (section : Section) (object : Object) (names : Names) → Yields (source_of section object names) (λ found. is_some found.0 ≡ is_some (field object Minable))
unfolding source_of
source_there section object names = by_section section object names

one_more_length : (sources : List RawSource) (found : Option RawSource) → length (one_more sources found) ≡ length sources + cond (is_some found) 1 0
one_more_length sources None = omega arith
one_more_length sources (Some source) = longer sources source

-- ---- each class of prototypes
item_added : (g : RawGame) (item : RawItem) (seen : Names) (t : Taken) → IsSoundDraft g → IsTaken true g.item_names g.nodes t → IsSoundRawItem item
    → IsSoundDraft (record g { items = g.items ++ item ∷ []; item_names = t.0; categories = seen; nodes = t.1 })
item_added g item seen t s k sound =
    let more = longer g.items item in
    record {
      item_names = omega arith;
      fluid_names = s.fluid_names;
      recipe_names = s.recipe_names;
      source_names = s.source_names;
      machine_names = s.machine_names;
      tech_names = s.tech_names;
      counted = omega arith;
      few = k.few;
      items = All-push IsSoundRawItem g.items item s.items sound;
      fluids = s.fluids;
      machines = s.machines;
    }

with_item_sound : (section : Section) (name : List ℕ) (object : Object) (g : RawGame) → IsSoundDraft g → Yields (with_item section name object g) IsSoundDraft
unfolding with_item
with_item_sound section name object g s =
    and_then (taken_yields g.item_names g.nodes name) λ t k.
    and_then (item_sound section object g.categories) λ found sound.
    record { holds = item_added g found.0 found.1 t s k sound }

fluid_added : (g : RawGame) (fluid : Fluid) (t : Taken) → IsSoundDraft g → IsTaken true g.fluid_names g.nodes t → fluid.of ≡ None
    → IsSoundDraft (record g { fluids = g.fluids ++ fluid ∷ []; fluid_names = t.0; nodes = t.1 })
fluid_added g fluid t s k plain =
    let more = longer g.fluids fluid in
    record {
      item_names = s.item_names;
      fluid_names = omega arith;
      recipe_names = s.recipe_names;
      source_names = s.source_names;
      machine_names = s.machine_names;
      tech_names = s.tech_names;
      counted = omega arith;
      few = k.few;
      items = s.items;
      fluids = All-push (λ fluid. fluid.of ≡ None) g.fluids fluid s.fluids plain;
      machines = s.machines;
    }

with_fluid_sound : (name : List ℕ) (object : Object) (g : RawGame) → IsSoundDraft g → Yields (with_fluid name object g) IsSoundDraft
unfolding with_fluid
with_fluid_sound name object g s = and_then (taken_yields g.fluid_names g.nodes name) λ t k. and_then (fluid_plain object) λ fluid plain. record { holds = fluid_added g fluid t s k plain }

recipe_added : (g : RawGame) (recipe : RawRecipe) (seen : Names) (t : Taken) → IsSoundDraft g → IsTaken true g.recipe_names g.nodes t
    → IsSoundDraft (record g { recipes = g.recipes ++ recipe ∷ []; recipe_names = t.0; categories = seen; nodes = t.1 })
recipe_added g recipe seen t s k =
    let more = longer g.recipes recipe in
    record {
      item_names = s.item_names;
      fluid_names = s.fluid_names;
      recipe_names = omega arith;
      source_names = s.source_names;
      machine_names = s.machine_names;
      tech_names = s.tech_names;
      counted = omega arith;
      few = k.few;
      items = s.items;
      fluids = s.fluids;
      machines = s.machines;
    }

with_recipe_sound : (name : List ℕ) (object : Object) (g : RawGame) → IsSoundDraft g → Yields (with_recipe name object g) IsSoundDraft
unfolding with_recipe
with_recipe_sound name object g s = and_then (taken_yields g.recipe_names g.nodes name) λ t k. whatever (raw_recipe object g.categories) λ found. record { holds = recipe_added g found.0 found.1 t s k }

tech_added : (g : RawGame) (tech : RawTech) (t : Taken) → IsSoundDraft g → IsTaken true g.tech_names g.nodes t → IsSoundDraft (record g { techs = g.techs ++ tech ∷ []; tech_names = t.0; nodes = t.1 })
tech_added g tech t s k =
    let more = longer g.techs tech in
    record {
      item_names = s.item_names;
      fluid_names = s.fluid_names;
      recipe_names = s.recipe_names;
      source_names = s.source_names;
      machine_names = s.machine_names;
      tech_names = omega arith;
      counted = omega arith;
      few = k.few;
      items = s.items;
      fluids = s.fluids;
      machines = s.machines;
    }

with_tech_sound : (name : List ℕ) (object : Object) (g : RawGame) → IsSoundDraft g → Yields (with_tech name object g) IsSoundDraft
unfolding with_tech
with_tech_sound name object g s = and_then (taken_yields g.tech_names g.nodes name) λ t k. whatever (raw_tech object) λ tech. record { holds = tech_added g tech t s k }

source_added : (g : RawGame) (found : Option RawSource) (seen : Names) (there : Bool) (t : Taken) → IsSoundDraft g → IsTaken there g.source_names g.nodes t → is_some found ≡ there
    → IsSoundDraft (record g { sources = one_more g.sources found; source_names = t.0; categories = seen; nodes = t.1 })
source_added g found seen there t s k same =
    let more : length (one_more g.sources found) ≡ length g.sources + cond there 1 0 = one_more_length g.sources found ∙ ap (λ test. length g.sources + cond test 1 0) same in
    record {
      item_names = s.item_names;
      fluid_names = s.fluid_names;
      recipe_names = s.recipe_names;
      source_names = omega arith;
      machine_names = s.machine_names;
      tech_names = s.tech_names;
      counted = omega arith;
      few = k.few;
      items = s.items;
      fluids = s.fluids;
      machines = s.machines;
    }

with_source_sound : (section : Section) (name : List ℕ) (object : Object) (g : RawGame) → IsSoundDraft g → Yields (with_source section name object g) IsSoundDraft
unfolding with_source
with_source_sound section name object g s =
    and_then (source_taken_yields object name g s.few) λ t k.
    and_then (source_there section object g.categories) λ found same.
    record { holds = source_added g found.0 found.1 (is_some (field object Minable)) t s k same }

machine_added : (g : RawGame) (machine : RawMachine) (seen : Names) (t : Taken) → IsSoundDraft g → IsTaken true g.machine_names g.nodes t → IsSoundRawMachine machine
    → IsSoundDraft (record g { machines = g.machines ++ machine ∷ []; machine_names = t.0; categories = seen; nodes = t.1 })
machine_added g machine seen t s k sound =
    let more = longer g.machines machine in
    record {
      item_names = s.item_names;
      fluid_names = s.fluid_names;
      recipe_names = s.recipe_names;
      source_names = s.source_names;
      machine_names = omega arith;
      tech_names = s.tech_names;
      counted = omega arith;
      few = k.few;
      items = s.items;
      fluids = s.fluids;
      machines = All-push IsSoundRawMachine g.machines machine s.machines sound;
    }

with_machine_sound : (section : Section) (name : List ℕ) (object : Object) (g : RawGame) → IsSoundDraft g → Yields (with_machine section name object g) IsSoundDraft
unfolding with_machine
with_machine_sound section name object g s =
    and_then (beside_yields g.machine_names g.source_names g.nodes name) λ t k.
    and_then (machine_sound section object g.categories) λ found sound.
    record { holds = machine_added g found.0 found.1 t s k sound }

-- what characters do is of no matter
character_added : (g : RawGame) (crafting mining : List ℕ) (seen : Names) → IsSoundDraft g → IsSoundDraft (record g { crafting = crafting; mining = mining; categories = seen })
character_added g crafting mining seen s =
    record {
      item_names = s.item_names;
      fluid_names = s.fluid_names;
      recipe_names = s.recipe_names;
      source_names = s.source_names;
      machine_names = s.machine_names;
      tech_names = s.tech_names;
      counted = s.counted;
      few = s.few;
      items = s.items;
      fluids = s.fluids;
      machines = s.machines;
    }

with_character_sound : (object : Object) (g : RawGame) → IsSoundDraft g → Yields (with_character object g) IsSoundDraft
unfolding with_character
with_character_sound object g s =
    whatever (categories_at object CraftingCategories g.categories) λ crafting.
    whatever (categories_at object MiningCategories crafting.1) λ mining.
    record { holds = character_added g (g.crafting ++ crafting.0) (g.mining ++ mining.0) mining.1 s }

-- ---- prototypes
entry_sound : (kind : Class) (section : Section) (name : List ℕ) (object : Object) (g : RawGame) → IsSoundDraft g → Yields (with_entry kind section name object g) IsSoundDraft
entry_sound class.Items section name object g s = with_item_sound section name object g s
entry_sound class.Fluids section name object g s = with_fluid_sound name object g s
entry_sound class.Recipes section name object g s = with_recipe_sound name object g s
entry_sound class.Sources section name object g s = with_source_sound section name object g s
entry_sound class.Machines section name object g s = with_machine_sound section name object g s
entry_sound class.Characters section name object g s = with_character_sound object g s
entry_sound class.Technologies section name object g s = with_tech_sound name object g s

pub prototype_sound : (section : Section) (name : List ℕ) (object : Object) (g : RawGame) → IsSoundDraft g → Yields (with_prototype section name object g) IsSoundDraft
unfolding with_prototype
prototype_sound section name object g s = entry_sound (class_of section) section name object g s

pub empty_sound : IsSoundDraft empty_game
empty_sound =
    record {
      item_names = refl;
      fluid_names = refl;
      recipe_names = refl;
      source_names = refl;
      machine_names = refl;
      tech_names = refl;
      counted = refl;
      few = omega arith;
      items = λ k d within. absurd (omega arith);
      fluids = λ k d within. absurd (omega arith);
      machines = λ k d within. absurd (omega arith);
    }
