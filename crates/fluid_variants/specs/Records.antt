-- The records of a fluid: a plain one where it is made at no more than one temperature, or else a base, which stands for it at
-- any temperature, and behind it a variant for each temperature. Goods are numbered anew, and each thing names the record that
-- it is about: what makes a fluid that of its temperature, what takes it the plain one or the base.
use Rattle.std.specs.Prelude.{ℕ, ◌+◌, ◌-◌, List, [], ◌∷◌, ◌++◌, Option, Some, None, option_map, map, take, sum_by, length, nat_lt, slice_index_or, if◌then◌else◌}
use Rattle.std.specs.List.{prefix_len}
use Rattle.fractions.specs.Fraction.{Fraction}
use Rattle.fractions.specs.Print.{printed}
use Rattle.plan_base.specs.declared.ids.GoodId.{GoodId}
use Rattle.game_types.specs.Temperatures.{is_cooler}
use Rattle.game_types.specs.declared.games.Game.{Game}
use Rattle.game_types.specs.declared.goods.Fluid.{Fluid}
use Rattle.game_types.specs.declared.machinery.Energy.{Energy}
use Rattle.game_types.specs.declared.machinery.Energy.TheVariants as energy
use Rattle.game_types.specs.declared.machinery.Machine.{Machine}
use Rattle.game_types.specs.declared.machinery.MachineKind.{MachineKind}
use Rattle.game_types.specs.declared.machinery.MachineKind.TheVariants.{Crafter, Drill, Pump, Boiler, Generator, BurnerGenerator, Solar, Reactor, Lab, Beacon}
use Rattle.game_types.specs.declared.recipes.Part.{Part}
use Rattle.game_types.specs.declared.recipes.Product.{Product}
use Rattle.game_types.specs.declared.recipes.Recipe.{Recipe}
use Rattle.game_types.specs.declared.recipes.Source.{Source}
use Rattle.fluid_variants.specs.declared.made.Made.{Made}
use Rattle.fluid_variants.specs.Temperatures.{heat_of, machine_made, product_made}

-- ---- the records of one fluid
abbrev pub at_one : Fluid → Fraction → Fluid
at_one fluid at = record fluid { of = None; at = at }

abbrev pub variant : GoodId → Fluid → Fraction → Fluid
variant base fluid at = record fluid { of = Some base; at = at }

-- by its temperatures, where its first record is this good
abbrev pub records : GoodId → Fluid → List Fraction → List Fluid
records first fluid [] = at_one fluid fluid.default_temperature ∷ []
records first fluid (at ∷ []) = at_one fluid at ∷ []
records first fluid (at ∷ other ∷ others) = at_one fluid fluid.default_temperature ∷ map (variant first fluid) (at ∷ other ∷ others)

-- how many there are
abbrev pub record_count : List Fraction → ℕ
record_count [] = 1
record_count (at ∷ []) = 1
record_count (at ∷ other ∷ others) = 1 + length (at ∷ other ∷ others)

-- `NAME@TEMPERATURE`
abbrev pub variant_name : List ℕ → Fraction → List ℕ
variant_name name at = name ++ (64 ∷ printed at)

abbrev pub variant_names : List ℕ → List Fraction → List (List ℕ)
variant_names name [] = []
variant_names name (at ∷ []) = []
variant_names name (at ∷ other ∷ others) = map (variant_name name) (at ∷ other ∷ others)

-- ---- numbers, by the temperatures of each fluid in order and the number of items
-- the first record of the fluid with a number among the fluids
unfoldable pub record_place : ℕ → List (List Fraction) → ℕ → ℕ
record_place items lists k = items + sum_by record_count (take k lists)

-- the plain record or the base of a good; items keep their numbers
unfoldable pub plain_of : ℕ → List (List Fraction) → GoodId → GoodId
plain_of items lists good = record { 0 = if nat_lt good.0 items then good.0 else record_place items lists (good.0 - items) }

-- how far behind its first record the variant of a temperature stands: behind those that are cooler
abbrev pub variant_offset : List Fraction → Fraction → ℕ
variant_offset [] at = 0
variant_offset (one ∷ []) at = 0
variant_offset (one ∷ other ∷ others) at = 1 + prefix_len (λ lower. is_cooler lower at) (one ∷ other ∷ others)

abbrev pub list_at : List (List Fraction) → ℕ → List Fraction
list_at lists k = slice_index_or lists k []

-- the record of what is made
unfoldable pub record_of : ℕ → List (List Fraction) → Made → GoodId
record_of items lists m = record { 0 = (plain_of items lists m.good).0 + variant_offset (list_at lists (m.good.0 - items)) m.at }

-- ---- the lists of all records and their names, where the next record is this good
unfoldable pub all_records : ℕ → List Fluid → List (List Fraction) → List Fluid
all_records place (fluid ∷ fluids) (list ∷ lists) = records (record { 0 = place }) fluid list ++ all_records (place + record_count list) fluids lists
all_records place fluids lists = []

unfoldable pub all_names : List (List ℕ) → List (List Fraction) → List (List ℕ)
all_names (name ∷ names) (list ∷ lists) = (name ∷ variant_names name list) ++ all_names names lists
all_names names lists = []

-- those of the variants alone
unfoldable pub all_variant_names : List (List ℕ) → List (List Fraction) → List (List ℕ)
all_variant_names (name ∷ names) (list ∷ lists) = variant_names name list ++ all_variant_names names lists
all_variant_names names lists = []

-- ---- goods numbered anew: what is taken, and what is made
pub record Numbering : Type 0 where
  pub taken : GoodId → GoodId
  pub given : Made → GoodId

unfoldable pub numbering_of : ℕ → List (List Fraction) → Numbering
numbering_of items lists = record { taken = plain_of items lists; given = record_of items lists }

abbrev pub given_or : Numbering → GoodId → Option Made → GoodId
given_or numbering good None = good
given_or numbering good (Some m) = numbering.given m

abbrev pub new_part : Numbering → Part → Part
new_part numbering part = record part { good = numbering.taken part.good }

abbrev pub new_product : Game → Numbering → Product → Product
new_product g numbering product = record product { good = given_or numbering product.good (product_made g product) }

abbrev pub new_recipe : Game → Numbering → Recipe → Recipe
new_recipe g numbering recipe = record recipe { ingredients = map (new_part numbering) recipe.ingredients; products = map (new_product g numbering) recipe.products }

abbrev pub new_source : Game → Numbering → Source → Source
new_source g numbering source = record source { products = map (new_product g numbering) source.products; fluid = option_map (λ fluid. (numbering.taken fluid.0, fluid.1)) source.fluid }

-- a boiler has the temperature to which it heats
abbrev pub new_kind : Game → Numbering → MachineKind → MachineKind
new_kind g numbering (Crafter speed categories fixed) = Crafter speed categories fixed
new_kind g numbering (Drill speed categories fluid_box) = Drill speed categories fluid_box
new_kind g numbering (Pump fluid speed) = Pump (given_or numbering fluid (machine_made g (Pump fluid speed))) speed
new_kind g numbering (Boiler input None target) = Boiler (option_map numbering.taken input) None (heat_of g None target)
new_kind g numbering (Boiler input (Some output) target) = Boiler (option_map numbering.taken input) (Some (given_or numbering output (machine_made g (Boiler input (Some output) target)))) (heat_of g (Some output) target)
new_kind g numbering (Generator input effectivity per_tick max_temperature burns output) = Generator (option_map numbering.taken input) effectivity per_tick max_temperature burns output
new_kind g numbering (BurnerGenerator output) = BurnerGenerator output
new_kind g numbering (Solar production) = Solar production
new_kind g numbering Reactor = Reactor
new_kind g numbering (Lab inputs speed) = Lab inputs speed
new_kind g numbering (Beacon effectivity) = Beacon effectivity

abbrev pub new_energy : Numbering → Energy → Energy
new_energy numbering (energy.Fluid filter effectivity) = energy.Fluid (option_map numbering.taken filter) effectivity
new_energy numbering energy.Electric = energy.Electric
new_energy numbering (energy.Burner categories effectivity) = energy.Burner categories effectivity
new_energy numbering energy.Heat = energy.Heat
new_energy numbering energy.Void = energy.Void

abbrev pub new_machine : Game → Numbering → Machine → Machine
new_machine g numbering machine = record machine { kind = new_kind g numbering machine.kind; energy = new_energy numbering machine.energy }
