-- The sections of a dump that are read, in the order in which they are read. The names are those of the prototype
-- documentation of Factorio 1.1.
use Rattle.std.specs.Prelude.{ℕ, List, codes}
use Rattle.machine_reader.specs.declared.sections.Class.{Class}
use Rattle.machine_reader.specs.declared.sections.Class.TheVariants as class
use Rattle.machine_reader.specs.declared.sections.Section.{Section}
use Rattle.machine_reader.specs.declared.sections.Section.TheVariants as s

-- a section's type as a dump spells it
abbrev pub section_text : Section → List ℕ
section_text s.Item = codes "item"
section_text s.Ammo = codes "ammo"
section_text s.Capsule = codes "capsule"
section_text s.Gun = codes "gun"
section_text s.ItemWithEntityData = codes "item-with-entity-data"
section_text s.ItemWithLabel = codes "item-with-label"
section_text s.ItemWithInventory = codes "item-with-inventory"
section_text s.BlueprintBook = codes "blueprint-book"
section_text s.ItemWithTags = codes "item-with-tags"
section_text s.SelectionTool = codes "selection-tool"
section_text s.Blueprint = codes "blueprint"
section_text s.CopyPasteTool = codes "copy-paste-tool"
section_text s.DeconstructionItem = codes "deconstruction-item"
section_text s.UpgradeItem = codes "upgrade-item"
section_text s.Module = codes "module"
section_text s.RailPlanner = codes "rail-planner"
section_text s.SpidertronRemote = codes "spidertron-remote"
section_text s.Tool = codes "tool"
section_text s.Armor = codes "armor"
section_text s.RepairTool = codes "repair-tool"
section_text s.Fluid = codes "fluid"
section_text s.Recipe = codes "recipe"
section_text s.Resource = codes "resource"
section_text s.Tree = codes "tree"
section_text s.SimpleEntity = codes "simple-entity"
section_text s.Fish = codes "fish"
section_text s.AssemblingMachine = codes "assembling-machine"
section_text s.Furnace = codes "furnace"
section_text s.RocketSilo = codes "rocket-silo"
section_text s.MiningDrill = codes "mining-drill"
section_text s.OffshorePump = codes "offshore-pump"
section_text s.Boiler = codes "boiler"
section_text s.Generator = codes "generator"
section_text s.BurnerGenerator = codes "burner-generator"
section_text s.SolarPanel = codes "solar-panel"
section_text s.Reactor = codes "reactor"
section_text s.Lab = codes "lab"
section_text s.Beacon = codes "beacon"
section_text s.Character = codes "character"
section_text s.Technology = codes "technology"

-- what the prototypes of a section are
abbrev pub class_of : Section → Class
class_of s.Fluid = class.Fluids
class_of s.Recipe = class.Recipes
class_of s.Resource = class.Sources
class_of s.Tree = class.Sources
class_of s.SimpleEntity = class.Sources
class_of s.Fish = class.Sources
class_of s.AssemblingMachine = class.Machines
class_of s.Furnace = class.Machines
class_of s.RocketSilo = class.Machines
class_of s.MiningDrill = class.Machines
class_of s.OffshorePump = class.Machines
class_of s.Boiler = class.Machines
class_of s.Generator = class.Machines
class_of s.BurnerGenerator = class.Machines
class_of s.SolarPanel = class.Machines
class_of s.Reactor = class.Machines
class_of s.Lab = class.Machines
class_of s.Beacon = class.Machines
class_of s.Character = class.Characters
class_of s.Technology = class.Technologies
class_of other = class.Items
