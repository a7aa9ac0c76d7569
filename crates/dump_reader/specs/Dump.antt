-- The first pass over a tree of JSON: section by section in their order, prototype by prototype as they stand in the dump.
-- The first fault is answered, with its section and the name of its prototype.
use Rattle.std.specs.Prelude.{ℕ, List, [], ◌∷◌, Option, Some, None, Result, Ok, Err, if◌then◌else◌}
use Rattle.std.specs.Str.{is_utf8}
use Rattle.json_text.specs.Kept.{Kept}
use Rattle.prototype_fields.specs.declared.fault.FieldCode.TheVariants.{WrongKind}
use Rattle.prototype_fields.specs.declared.fault.FieldFault.{FieldFault}
use Rattle.prototype_fields.specs.declared.names.Within.TheVariants as within
use Rattle.prototype_fields.specs.Objects.{Member, as_object, value_at}
use Rattle.prototype_fields.specs.Values.{Reading, ◌▸◌, object_element}
use Rattle.craft_reader.specs.declared.fault.DumpFault.{DumpFault}
use Rattle.craft_reader.specs.Faults.{fault_in, in_prototype}
use Rattle.machine_reader.specs.declared.sections.Section.{Section}
use Rattle.machine_reader.specs.declared.sections.Section.TheVariants as section
use Rattle.machine_reader.specs.Sections.{section_text}
use Rattle.dump_reader.specs.Draft.{RawGame, empty_game, with_prototype}

-- first this, and then what the value gives
infixr 1 ◌▷◌
abbrev pub ◌▷◌ : {A B : Type 0} → Result A DumpFault → (A → Result B DumpFault) → Result B DumpFault
(Ok value) ▷ next = next value
(Err fault) ▷ next = Err fault

-- one thing after another
abbrev pub each_after : {X G : Type 0} → (X → G → Result G DumpFault) → List X → G → Result G DumpFault
each_after read [] g = Ok g
each_after read (x ∷ xs) g = read x g ▷ λ h. each_after read xs h

-- what is no object
abbrev pub no_object : FieldFault
no_object = record { code = WrongKind; within = within.Prototype; key = None }

-- ---- prototypes
unfoldable pub prototype_of : Section → List ℕ → Kept → RawGame → Reading RawGame
prototype_of section name value g = object_element within.Prototype value ▸ λ object. with_prototype section name object g

unfoldable pub named_of : Section → List ℕ → Kept → RawGame → Result RawGame DumpFault
named_of section name value g = in_prototype (section_text section) name (prototype_of section name value g)

unfoldable pub member_of : Section → Member → RawGame → Result RawGame DumpFault
member_of section member g =
    if is_utf8 member.0 then named_of section member.0 member.1 g
    else Err (fault_in (section_text section) [] no_object)

-- ---- sections
abbrev pub members_in : Section → Option (List Member) → RawGame → Result RawGame DumpFault
members_in section None g = Err (fault_in (section_text section) [] no_object)
members_in section (Some members) g = each_after (member_of section) members g

abbrev pub section_in : Section → Option Kept → RawGame → Result RawGame DumpFault
section_in section None g = Ok g
section_in section (Some value) g = members_in section (as_object value) g

unfoldable pub section_of : List Member → Section → RawGame → Result RawGame DumpFault
section_of top section g = section_in section (value_at (section_text section) top) g

-- the sections that are read, in order
abbrev pub sections : List Section
sections =
    section.Item ∷ section.Ammo ∷ section.Capsule ∷ section.Gun ∷ section.ItemWithEntityData ∷ section.ItemWithLabel ∷ section.ItemWithInventory
    ∷ section.BlueprintBook ∷ section.ItemWithTags ∷ section.SelectionTool ∷ section.Blueprint ∷ section.CopyPasteTool ∷ section.DeconstructionItem
    ∷ section.UpgradeItem ∷ section.Module ∷ section.RailPlanner ∷ section.SpidertronRemote ∷ section.Tool ∷ section.Armor ∷ section.RepairTool
    ∷ section.Fluid ∷ section.Recipe ∷ section.Resource ∷ section.Tree ∷ section.SimpleEntity ∷ section.Fish ∷ section.AssemblingMachine ∷ section.Furnace
    ∷ section.RocketSilo ∷ section.MiningDrill ∷ section.OffshorePump ∷ section.Boiler ∷ section.Generator ∷ section.BurnerGenerator ∷ section.SolarPanel
    ∷ section.Reactor ∷ section.Lab ∷ section.Beacon ∷ section.Character ∷ section.Technology ∷ []

-- ---- the game of a tree, with names in place of ids
abbrev pub game_in : Option (List Member) → Result RawGame DumpFault
game_in None = Err (fault_in [] [] no_object)
game_in (Some members) = each_after (section_of members) sections empty_game

unfoldable pub raw_game : Kept → Result RawGame DumpFault
raw_game top = game_in (as_object top)
