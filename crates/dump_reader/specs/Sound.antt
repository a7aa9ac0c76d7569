-- What the first pass over a dump leaves for the second: as many names as prototypes, few enough nodes, in each record numbers
-- within their ranges, and no variants of fluids.
use Rattle.std.specs.Prelude.{◌≡◌, ◌+◌, ◌≤◌, All, IfSome, length}
use Rattle.game_types.specs.Nodes.{node_limit}
use Rattle.game_types.specs.Sound.{ArePlain, IsSoundBonus}
use Rattle.machine_reader.specs.Sound.{IsSoundRawMachine}
use Rattle.dump_reader.specs.declared.raw.RawItem.{RawItem}
use Rattle.dump_reader.specs.Draft.{RawGame}

-- a module's hundredths are small
abbrev pub IsSoundRawItem : RawItem → Type 0
IsSoundRawItem item = IfSome item.module (λ m. IsSoundBonus m.bonus)

pub record IsSoundDraft (g : RawGame) : Type 0 where
  pub item_names : length g.item_names ≡ length g.items
  pub fluid_names : length g.fluid_names ≡ length g.fluids
  pub recipe_names : length g.recipe_names ≡ length g.recipes
  pub source_names : length g.source_names ≡ length g.sources
  pub machine_names : length g.machine_names ≡ length g.machines
  pub tech_names : length g.tech_names ≡ length g.techs
  pub counted : g.nodes ≡ 3 + length g.items + length g.fluids + length g.recipes + length g.sources + length g.machines + length g.techs
  pub few : g.nodes ≤ node_limit
  pub items : All IsSoundRawItem g.items
  pub fluids : ArePlain g.fluids
  pub machines : All IsSoundRawMachine g.machines
