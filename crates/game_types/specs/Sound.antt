-- When a game is sound: its numbers name what is there, and what is divided by is above 0. And when a set-up is sound on a
-- game. Whatever is read from a dump is sound, and edits keep it so.
use Rattle.std.specs.Prelude.{◌≡◌, ℕ, ◌+◌, ◌-◌, ◌<◌, ◌≤◌, ℤ, unsigned_abs, All, IfSome, List, Some, None, length, slice_get, IsSomeAnd, IsSome}
use Rattle.fractions.specs.Fraction.{◌<ʳ◌, zero_fraction}
use Rattle.plan_base.specs.Shape.{node_count}
use Rattle.plan_base.specs.declared.GoodId.{GoodId}
use Rattle.plan_base.specs.declared.EntityId.{EntityId}
use Rattle.game_types.specs.declared.effects.Bonus.{Bonus}
use Rattle.game_types.specs.declared.goods.Module.{Module}
use Rattle.game_types.specs.declared.goods.Item.{Item}
use Rattle.game_types.specs.declared.goods.Fluid.{Fluid}
use Rattle.game_types.specs.declared.recipes.Recipe.{Recipe}
use Rattle.game_types.specs.declared.recipes.Source.{Source}
use Rattle.game_types.specs.declared.machinery.Machine.{Machine}
use Rattle.game_types.specs.declared.machinery.MachineKind.{MachineKind}
use Rattle.game_types.specs.declared.machinery.MachineKind.TheVariants.{Crafter, Drill, Pump, Boiler, Generator, BurnerGenerator, Solar, Reactor, Lab, Beacon}
use Rattle.game_types.specs.declared.machinery.Energy.{Energy}
use Rattle.game_types.specs.declared.machinery.Energy.TheVariants.{Electric, Burner, Heat, Fluid as OfFluid, Void}
use Rattle.game_types.specs.declared.research.Tech.{Tech}
use Rattle.game_types.specs.declared.setups.Activity.{Activity}
use Rattle.game_types.specs.declared.setups.Activity.TheVariants.{Craft, Mine, Pump as Pumping, Generate, Boil, Research}
use Rattle.game_types.specs.declared.setups.BeaconGroup.{BeaconGroup}
use Rattle.game_types.specs.declared.setups.Setup.{Setup}
use Rattle.game_types.specs.declared.games.Game.{Game}
use Rattle.game_types.specs.Nodes.{node_limit, shape_of}

-- ---- goods: items come before fluids
abbrev pub IsItem : Game → ℕ → Type 0
IsItem g good = good < length g.items

abbrev pub IsGood : Game → ℕ → Type 0
IsGood g good = good < length g.items + length g.fluids

abbrev pub IsFluid : Game → ℕ → Type 0
IsFluid g good = (length g.items ≤ good) × IsGood g good

-- ---- each record
abbrev pub IsSmall : ℤ → Type 0
IsSmall hundredths = unsigned_abs hundredths ≤ 100_000_000

-- no hundredths of a module are above 10^8 in magnitude
pub record IsSoundBonus (bonus : Bonus) : Type 0 where
  pub speed : IsSmall bonus.speed
  pub productivity : IsSmall bonus.productivity
  pub consumption : IsSmall bonus.consumption
  pub pollution : IsSmall bonus.pollution

pub record IsSoundModule (g : Game) (module_ : Module) : Type 0 where
  pub bonus : IsSoundBonus module_.bonus
  pub limitation : All (λ r. r.0 < length g.recipes) module_.limitation
  pub blacklist : All (λ r. r.0 < length g.recipes) module_.blacklist

pub record IsSoundItem (g : Game) (item : Item) : Type 0 where
  pub place : IfSome item.place (λ m. m.0 < length g.machines)
  pub burnt : IfSome item.burnt (λ good. IsItem g good.0)
  pub module_ : IfSome item.module (IsSoundModule g)
  pub launch : All (λ product. IsItem g product.good.0) item.launch

abbrev pub IsCrafterKind : MachineKind → Type 0
IsCrafterKind (Crafter speed categories fixed) = Unit {0}
IsCrafterKind kind = ⊥

abbrev pub IsCrafter : Game → EntityId → Type 0
IsCrafter g machine = IsSomeAnd (slice_get g.machines machine.0) (λ m. IsCrafterKind m.kind)

-- a base is a fluid that is no variant itself
abbrev pub IsBase : Game → GoodId → Type 0
IsBase g base = (length g.items ≤ base.0) × IsSomeAnd (slice_get g.fluids (base.0 - length g.items)) (λ fluid. fluid.of ≡ None)

abbrev pub IsSoundFluid : Game → Fluid → Type 0
IsSoundFluid g fluid = IfSome fluid.of (IsBase g)

-- no fluid is a variant
abbrev pub ArePlain : List Fluid → Type 0
ArePlain fluids = All (λ fluid. fluid.of ≡ None) fluids

-- two variants of one base have different temperatures
abbrev pub AreApart : List Fluid → Type 0
AreApart fluids = (i j : ℕ) (one other : Fluid) (base : GoodId) → slice_get fluids i ≡ Some one → slice_get fluids j ≡ Some other
    → one.of ≡ Some base → other.of ≡ Some base → one.at ≡ other.at → i ≡ j

-- the silo of a launch crafts
pub record IsSoundRecipe (g : Game) (recipe : Recipe) : Type 0 where
  pub ingredients : All (λ part. IsGood g part.good.0) recipe.ingredients
  pub products : All (λ product. IsGood g product.good.0) recipe.products
  pub launch : IfSome recipe.launch (IsCrafter g)

pub record IsSoundSource (g : Game) (source : Source) : Type 0 where
  pub products : All (λ product. IsGood g product.good.0) source.products
  pub fluid : IfSome source.fluid (λ f. IsFluid g f.0.0)

-- what a machine's kind names is there, and its speed and effectivity are above 0
abbrev pub IsSoundKind : Game → MachineKind → Type 0
IsSoundKind g (Crafter speed categories fixed) = (zero_fraction <ʳ speed) × IfSome fixed (λ r. r.0 < length g.recipes)
IsSoundKind g (Drill speed categories fluid_box) = zero_fraction <ʳ speed
IsSoundKind g (Pump fluid speed) = IsFluid g fluid.0 × (zero_fraction <ʳ speed)
IsSoundKind g (Boiler input output temperature) = IfSome input (λ f. IsFluid g f.0) × IfSome output (λ f. IsFluid g f.0)
IsSoundKind g (Generator input effectivity per_tick max_temperature burns output) = IfSome input (λ f. IsFluid g f.0) × (zero_fraction <ʳ effectivity)
IsSoundKind g (BurnerGenerator output) = Unit {0}
IsSoundKind g (Solar production) = Unit {0}
IsSoundKind g Reactor = Unit {0}
IsSoundKind g (Lab inputs speed) = All (λ good. IsItem g good.0) inputs × (zero_fraction <ʳ speed)
IsSoundKind g (Beacon effectivity) = Unit {0}

abbrev pub IsSoundEnergy : Game → Energy → Type 0
IsSoundEnergy g Electric = Unit {0}
IsSoundEnergy g (Burner categories effectivity) = zero_fraction <ʳ effectivity
IsSoundEnergy g Heat = Unit {0}
IsSoundEnergy g (OfFluid filter effectivity) = IfSome filter (λ f. IsFluid g f.0) × (zero_fraction <ʳ effectivity)
IsSoundEnergy g Void = Unit {0}

abbrev pub IsBurner : Energy → Type 0
IsBurner (Burner categories effectivity) = Unit {0}
IsBurner energy = ⊥

-- a burner generator burns
abbrev pub IsSoundBurning : MachineKind → Energy → Type 0
IsSoundBurning (BurnerGenerator output) energy = IsBurner energy
IsSoundBurning kind energy = Unit {0}

pub record IsSoundMachine (g : Game) (machine : Machine) : Type 0 where
  pub kind : IsSoundKind g machine.kind
  pub energy : IsSoundEnergy g machine.energy
  pub burning : IsSoundBurning machine.kind machine.energy
  pub slots : machine.slots ≤ 65_535

pub record IsSoundTech (g : Game) (tech : Tech) : Type 0 where
  pub prerequisites : All (λ t. t.0 < length g.techs) tech.prerequisites
  pub unlocks : All (λ r. r.0 < length g.recipes) tech.unlocks
  pub ingredients : All (λ part. IsItem g part.0.0) tech.ingredients

-- ---- the game
pub record IsSound (g : Game) : Type 0 where
  pub item_names : length g.item_names ≡ length g.items
  pub fluid_names : length g.fluid_names ≡ length g.fluids
  pub recipe_names : length g.recipe_names ≡ length g.recipes
  pub source_names : length g.source_names ≡ length g.sources
  pub machine_names : length g.machine_names ≡ length g.machines
  pub tech_names : length g.tech_names ≡ length g.techs
  pub nodes : node_count (shape_of g) ≤ node_limit
  pub items : All (IsSoundItem g) g.items
  pub fluids : All (IsSoundFluid g) g.fluids
  pub apart : AreApart g.fluids
  pub recipes : All (IsSoundRecipe g) g.recipes
  pub sources : All (IsSoundSource g) g.sources
  pub machines : All (IsSoundMachine g) g.machines
  pub techs : All (IsSoundTech g) g.techs

-- ---- set-ups
abbrev pub IsSoundActivity : Game → Activity → Type 0
IsSoundActivity g (Craft recipe) = recipe.0 < length g.recipes
IsSoundActivity g (Mine source) = source.0 < length g.sources
IsSoundActivity g (Pumping good) = IsGood g good.0
IsSoundActivity g Generate = Unit {0}
IsSoundActivity g (Boil good) = IsGood g good.0
IsSoundActivity g (Research tech) = tech.0 < length g.techs

-- the good is an item with a module
abbrev pub IsModule : Game → GoodId → Type 0
IsModule g good = IsSomeAnd (slice_get g.items good.0) (λ item. IsSome item.module)

abbrev pub IsBeaconKind : MachineKind → Type 0
IsBeaconKind (Beacon effectivity) = Unit {0}
IsBeaconKind kind = ⊥

abbrev pub IsBeacon : Game → EntityId → Type 0
IsBeacon g machine = IsSomeAnd (slice_get g.machines machine.0) (λ m. IsBeaconKind m.kind)

pub record IsSoundGroup (g : Game) (group : BeaconGroup) : Type 0 where
  pub beacon : IsBeacon g group.beacon
  pub modules : All (λ m. IsModule g m.0) group.modules

pub record IsSoundSetup (g : Game) (setup : Setup) : Type 0 where
  pub activity : IsSoundActivity g setup.activity
  pub machine : setup.machine.0 < length g.machines
  pub fuel : IfSome setup.fuel (λ good. IsItem g good.0)
  pub modules : All (λ m. IsModule g m.0) setup.modules
  pub beacons : All (IsSoundGroup g) setup.beacons
  pub at : All (λ good. IsFluid g good.0) setup.at
