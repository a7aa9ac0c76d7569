-- The nodes that were found so far.
use Rattle.std.specs.Prelude.{ℕ, ◌+◌, ◌*◌, ◌%◌, ◌<◌, ◌≤◌, ◌≡◌, ◌==◌, ◌||◌, ◌&&◌, Bool, true, false, List, Option, None, Some, All, AllPairs, length, map, not, slice_get, slice_index, slice_index_or}
use Rattle.std.specs.List.{list_any}
use Rattle.plan_base.specs.declared.NodeId.{NodeId}
use Rattle.graph_store.specs.declared.Row.{Row}
use Rattle.graph_store.specs.Rows.{has_node}
use Rattle.reach_ranks.specs.Rounds.{Nodes}
use Rattle.graph_store.specs.Replace.{count_of}
use Rattle.milestone_masks.specs.Why.{comes_first, is_first_member, is_support, IsSupported}

-- the marks tell which nodes were found, each once
pub record AreSeen (found : List NodeId) (seen : List Bool) : Type 0 where
  pub tells : (n : ℕ) → n < length seen → slice_index_or seen n false ≡ has_node found n
  pub once : (n : ℕ) → count_of found n ≤ 1
  pub below : All (λ m. m.0 < length seen) found

-- the wanted nodes were found too, and what was found before stands in front
pub record Grows (wanted : ℕ → Bool) (old new : List NodeId) : Type 0 where
  pub members : (n : ℕ) → has_node new n ≡ (has_node old n || wanted n)
  pub longer : length old ≤ length new
  pub kept : (k : ℕ) (d : NodeId) → k < length old → slice_index_or new k d ≡ slice_index_or old k d

-- the first member, where there is one
abbrev pub IsFirstOf : Option NodeId → List ℕ → List NodeId → Type 0
IsFirstOf None ranks members = (n : ℕ) → is_first_member ranks members n ≡ false
IsFirstOf (Some m) ranks members = (m.0 < length ranks) × ((n : ℕ) → is_first_member ranks members n ≡ (m.0 == n))

-- where a node comes among those that have a rank: by rank, then by node; one without a rank comes past all others
abbrev pub turn_of : List ℕ → ℕ → ℕ
turn_of ranks n = (slice_index ranks n + 4294967295) % 4294967296 * 4294967296 + n

-- from this turn on there are only nodes without a rank
abbrev pub no_turn : ℕ
no_turn = 18446744069414584320

-- the least of the members' turns, if one of them has a rank
pub record IsLeastTurn (turn : ℕ) (ranks : List ℕ) (members : List NodeId) : Type 0 where
  pub least : All (λ m. turn ≤ turn_of ranks m.0) members
  pub few : All (λ m. slice_index ranks m.0 < 4294967296) members
  pub small : All (λ m. m.0 < 4294967296) members
  pub member : turn < no_turn → has_node members (turn % 4294967296) ≡ true
  pub own : turn < no_turn → turn_of ranks (turn % 4294967296) ≡ turn
  pub below : turn < no_turn → turn % 4294967296 < length ranks

-- whether the node of this row isn't granted and stands on the other
abbrev pub stands_by : Option Row → List Bool → List ℕ → ℕ → ℕ → Bool
stands_by row granted ranks n m = not (slice_index_or granted n false) && is_support ranks row m

-- whether the node isn't granted and stands on the other
abbrev pub stands_on : List Row → List Bool → List ℕ → ℕ → ℕ → Bool
stands_on rows granted ranks n m = stands_by (slice_get rows n) granted ranks n m

-- whether one of the nodes isn't granted and stands on the other
abbrev pub stood_on : List Row → List Bool → List ℕ → List NodeId → ℕ → Bool
stood_on rows granted ranks nodes m = list_any (λ n. stands_on rows granted ranks n.0 m) nodes

-- these are the rows of the nodes, in order
abbrev pub AreRowsOf : List Row → List NodeId → List Row → Type 0
AreRowsOf rows nodes those = map (λ r. Some r) those ≡ map (λ n. slice_get rows n.0) nodes

-- the least set that holds the node and what its nodes stand on, each once, in any order
pub record IsFound (rows : List Row) (granted : List Bool) (ranks : List ℕ) (node : ℕ) (nodes : List NodeId) : Type 0 where
  pub holds : has_node nodes node ≡ true
  pub supported : IsSupported rows granted ranks (has_node nodes)
  pub least : (set : Nodes) → set node ≡ true → IsSupported rows granted ranks set → (n : ℕ) → has_node nodes n ≡ true → set n ≡ true
  pub once : (n : ℕ) → count_of nodes n ≤ 1
  pub below : All (λ m. m.0 < length rows) nodes

-- a number that grows by rank, then by node, and the node of such a number
abbrev pub key_of : List ℕ → ℕ → ℕ
key_of ranks n = slice_index ranks n * 4294967296 + n

abbrev pub node_of : ℕ → NodeId
node_of key = record { 0 = key % 4294967296 }

-- the nodes are marked, and their numbers grow
pub record AreRising (ranks : List ℕ) (seen : List Bool) (nodes : List NodeId) : Type 0 where
  pub below : All (λ m. m.0 < length seen) nodes
  pub marked : All (λ m. slice_index_or seen m.0 false ≡ true) nodes
  pub order : AllPairs (λ a b. key_of ranks a.0 < key_of ranks b.0) nodes

-- the same nodes, each as often, by rank, then by node
pub record IsInOrder (ranks : List ℕ) (nodes sorted : List NodeId) : Type 0 where
  pub as_long : length sorted ≡ length nodes
  pub same : (n : ℕ) → has_node sorted n ≡ has_node nodes n
  pub counts : (n : ℕ) → count_of sorted n ≡ count_of nodes n
  pub order : AllPairs (λ a b. comes_first ranks b.0 a.0 ≡ false) sorted
