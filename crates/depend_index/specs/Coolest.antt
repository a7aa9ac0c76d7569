-- The variants of a base in the order of their temperatures, so that those within bounds stand next to each other.
use Rattle.std.specs.Prelude.{ℕ, ◌≡◌, ◌-◌, ◌<◌, ◌≤◌, false, List, Option, Some, None, Vec, length, slice_get}
use Rattle.std.specs.Global.{Global}
use Rattle.fractions.specs.Fraction.{Fraction, zero_fraction}
use Rattle.plan_base.specs.declared.ids.NodeId.{NodeId}
use Rattle.game_types.specs.Temperatures.{is_cooler}
use Rattle.game_types.specs.declared.goods.Fluid.{Fluid}
use Rattle.graph_store.specs.Lists.{has_node, list_at, number_at}

-- the temperature of a fluid; 0 where there is none
abbrev pub temperature_in : Option Fluid → Fraction
temperature_in None = zero_fraction
temperature_in (Some fluid) = fluid.at

-- the temperature of the fluid that a node is, by the number of the first fluid's node; 0 where it is none
unfoldable pub temperature_of : List Fluid → ℕ → ℕ → Fraction
temperature_of fluids first n = temperature_in (slice_get fluids (n - first))

-- no node stands behind a warmer one
abbrev pub AreCoolestFirst : List Fluid → ℕ → List NodeId → Type 0
AreCoolestFirst fluids first nodes = (i j : ℕ) → i ≤ j → j < length nodes → is_cooler (temperature_of fluids first (number_at nodes j)) (temperature_of fluids first (number_at nodes i)) ≡ false

-- the same nodes, the coolest first
pub record IsCoolestFirst (fluids : List Fluid) (first : ℕ) (nodes sorted : List NodeId) : Type 0 where
  pub same : (n : ℕ) → has_node sorted n ≡ has_node nodes n
  pub order : AreCoolestFirst fluids first sorted

-- the nodes of each list, the coolest first
pub record AreSorted (fluids : List Fluid) (first : ℕ) (lists sorted : List (Vec NodeId Global)) : Type 0 where
  pub as_long : length sorted ≡ length lists
  pub each : (k : ℕ) → k < length lists → IsCoolestFirst fluids first (list_at lists k) (list_at sorted k)
