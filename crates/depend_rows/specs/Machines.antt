-- What machines and technologies need.
use Rattle.std.specs.Prelude.{ℕ, ◌&&◌, Bool, true, false, not, List, [], ◌∷◌, ◌++◌, Option, Some, None, length, map}
use Rattle.std.specs.List.{list_all}
use Rattle.fractions.specs.Fraction.{Fraction}
use Rattle.plan_base.specs.Shape.{electricity_node, heat_node}
use Rattle.plan_base.specs.declared.ids.NodeId.{NodeId}
use Rattle.plan_base.specs.declared.ids.GoodId.{GoodId}
use Rattle.graph_store.specs.declared.Group.{Group}
use Rattle.graph_store.specs.declared.Row.{Row}
use Rattle.game_types.specs.Making.{holds, takes_fuel}
use Rattle.fractions.specs.Signs.{is_positive}
use Rattle.game_types.specs.declared.games.Game.{Game}
use Rattle.game_types.specs.declared.goods.Fuel.{Fuel}
use Rattle.game_types.specs.declared.machinery.Energy.{Energy}
use Rattle.game_types.specs.declared.machinery.Energy.TheVariants.{Electric, Burner, Heat, Fluid, Void}
use Rattle.game_types.specs.declared.machinery.Machine.{Machine}
use Rattle.game_types.specs.declared.machinery.MachineKind.{MachineKind}
use Rattle.game_types.specs.declared.machinery.MachineKind.TheVariants.{Boiler, Generator, BurnerGenerator, Solar, Reactor, Lab}
use Rattle.game_types.specs.declared.research.Tech.{Tech}
use Rattle.graph_store.specs.Members.{named, those}
use Rattle.depend_rows.specs.Members.{all_of, any_of, good_node, group_where, row_with}
use Rattle.depend_index.specs.Goods.{first_machine, first_tech, good_count}
use Rattle.depend_index.specs.Machines.{burning_fluids, names_good, placers}

-- ---- machines
-- a fuel of some categories that has any energy
abbrev pub is_fuel_in : List ℕ → Option Fuel → Bool
is_fuel_in categories None = false
is_fuel_in categories (Some fuel) = holds categories fuel.category && is_positive fuel.value

abbrev pub is_taken : Energy → Option Fuel → Bool
is_taken energy None = false
is_taken energy (Some fuel) = takes_fuel energy fuel

-- the items with a fuel that is taken
unfoldable pub fuels_taken : Game → Energy → List NodeId
fuels_taken g energy = those (λ item. is_taken energy item.fuel) 3 g.items

-- all of one fluid, or any that burns
unfoldable pub fluid_or_burning : Game → Option GoodId → Group
fluid_or_burning g None = any_of (burning_fluids g)
fluid_or_burning g (Some fluid) = all_of (good_node fluid ∷ [])

-- what a machine takes its energy from
unfoldable pub energy_groups : Game → Energy → List Group
energy_groups g Electric = all_of (electricity_node ∷ []) ∷ []
energy_groups g (Burner categories effectivity) = any_of (fuels_taken g (Burner categories effectivity)) ∷ []
energy_groups g Heat = all_of (heat_node ∷ []) ∷ []
energy_groups g (Fluid filter effectivity) = fluid_or_burning g filter ∷ []
energy_groups g Void = []

abbrev pub given_input : Option GoodId → List Group
given_input None = []
given_input (Some fluid) = all_of (good_node fluid ∷ []) ∷ []

-- what a boiler heats, and what a generator runs on
unfoldable pub input_groups : Game → MachineKind → List Group
input_groups g (Boiler input output temperature) = given_input input
input_groups g (Generator input effectivity per_tick max_temperature burns output) = fluid_or_burning g input ∷ []
input_groups g kind = []

-- a machine needs any item that is placed as it, its energy and its input
unfoldable pub machine_row : Game → ℕ → Machine → Row
machine_row g number machine = row_with (any_of (placers g number) ∷ (energy_groups g machine.energy ++ input_groups g machine.kind))

-- ---- technologies
-- a lab whose inputs hold all that a technology takes
abbrev pub researches : MachineKind → List (GoodId × Fraction) → Bool
researches (Lab inputs speed) parts = list_all (λ part. names_good inputs part.0.0) parts
researches kind parts = false

unfoldable pub labs : Game → Tech → List NodeId
labs g tech = those (λ machine. researches machine.kind tech.ingredients) (first_machine g) g.machines

unfoldable pub prerequisites : Game → Tech → List NodeId
prerequisites g tech = named (first_tech g) (length g.techs) (map (λ t. t.0) tech.prerequisites)

unfoldable pub science_packs : Game → Tech → List NodeId
science_packs g tech = named 3 (good_count g) (map (λ part. part.0.0) tech.ingredients)

-- a technology needs all its prerequisites, all its ingredients and any lab that takes them, and what nothing gives where it
-- can't be researched at all
unfoldable pub tech_row : Game → Tech → Row
tech_row g tech = row_with (
    all_of (prerequisites g tech)
    ∷ all_of (science_packs g tech)
    ∷ any_of (labs g tech)
    ∷ group_where (not tech.enabled) (any_of []))

-- ---- electricity and heat
abbrev pub makes_electricity : MachineKind → Bool
makes_electricity (Generator input effectivity per_tick max_temperature burns output) = true
makes_electricity (BurnerGenerator output) = true
makes_electricity (Solar production) = true
makes_electricity kind = false

abbrev pub makes_heat : MachineKind → Bool
makes_heat Reactor = true
makes_heat kind = false

-- the character needs nothing
abbrev pub character_row : Row
character_row = row_with []

unfoldable pub electricity_row : Game → Row
electricity_row g = row_with (any_of (those (λ machine. makes_electricity machine.kind) (first_machine g) g.machines) ∷ [])

unfoldable pub heat_row : Game → Row
heat_row g = row_with (any_of (those (λ machine. makes_heat machine.kind) (first_machine g) g.machines) ∷ [])
