-- Why a node is reached: what supports it, and what supports that.
use Rattle.std.specs.Prelude.{ℕ, ◌≤◌, ◌≡◌, ◌==◌, ◌&&◌, ◌||◌, Bool, true, false, not, List, Option, None, Some, AllPairs, if◌then◌else◌, nat_lt, slice_get, slice_index, slice_index_or}
use Rattle.std.specs.List.{list_all, list_any}
use Rattle.plan_base.specs.declared.NodeId.{NodeId}
use Rattle.graph_store.specs.declared.Group.{Group}
use Rattle.graph_store.specs.declared.Row.{Row}
use Rattle.graph_store.specs.Rows.{has_node}
use Rattle.graph_store.specs.Replace.{count_of}
use Rattle.reach_ranks.specs.Rounds.{Nodes}
use Rattle.milestone_masks.specs.Worlds.{ranked}

-- whether the first node comes before the second: by rank, then by node
abbrev pub comes_first : List ℕ → ℕ → ℕ → Bool
comes_first ranks a b =
    nat_lt (slice_index ranks a) (slice_index ranks b) || (slice_index ranks a == slice_index ranks b && nat_lt a b)

-- whether the node is the member that comes first among those that have a rank
abbrev pub is_first_member : List ℕ → List NodeId → ℕ → Bool
is_first_member ranks members n =
    has_node members n && (ranked ranks n && list_all (λ m. not (ranked ranks m.0 && comes_first ranks m.0 n)) members)

-- whether the group stands on the node: on each member of an All group, on the first member of an Any group
abbrev pub is_support_in : List ℕ → Group → ℕ → Bool
is_support_in ranks group n =
    if group.all then has_node group.members n else is_first_member ranks group.members n

-- whether one of the groups of the row stands on the node
abbrev pub is_support : List ℕ → Option Row → ℕ → Bool
is_support ranks None n = false
is_support ranks (Some row) n = list_any (λ g. is_support_in ranks g n) row.groups

-- the set holds what each of its nodes stands on, but for the granted ones
abbrev pub IsSupported : List Row → List Bool → List ℕ → Nodes → Type 0
IsSupported rows granted ranks set =
    (n m : ℕ) → set n ≡ true → slice_index_or granted n false ≡ false → is_support ranks (slice_get rows n) m ≡ true → set m ≡ true

-- the least set that holds the node and what its nodes stand on, each once, by rank, then by node
pub record IsWhy (rows : List Row) (granted : List Bool) (ranks : List ℕ) (node : ℕ) (nodes : List NodeId) : Type 0 where
  pub holds : has_node nodes node ≡ true
  pub supported : IsSupported rows granted ranks (has_node nodes)
  pub least : (set : Nodes) → set node ≡ true → IsSupported rows granted ranks set → (n : ℕ) → has_node nodes n ≡ true → set n ≡ true
  pub once : (n : ℕ) → count_of nodes n ≤ 1
  pub order : AllPairs (λ a b. comes_first ranks b.0 a.0 ≡ false) nodes
