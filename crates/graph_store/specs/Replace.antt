-- Rows put in the place of others, and the lists of users meanwhile.
use Rattle.std.specs.Prelude.{ℕ, ◌<◌, ◌≤◌, ◌≡◌, ◌≢◌, ◌==◌, ◌&&◌, Bool, true, false, not, List, Some, All, AllPairs, Vec, count_by, filter, length, map, slice_get, slice_index_or}
use Rattle.std.specs.Global.{Global}
use Rattle.std.specs.List.{list_any}
use Rattle.plan_base.specs.declared.NodeId.{NodeId}
use Rattle.graph_store.specs.declared.Row.{Row}
use Rattle.graph_store.specs.Rows.{has_member, is_user}
use Rattle.graph_store.specs.Users.{users_at}

-- a row for a node
abbrev pub Change : Type 0
Change = NodeId × Row

-- whether one of the changes is for this node
abbrev pub has_change : List Change → ℕ → Bool
has_change changes node = list_any (λ c. c.0.0 == node) changes

-- no two of the changes are for one node
abbrev pub AreForDifferentNodes : List Change → Type 0
AreForDifferentNodes changes = AllPairs (λ c d. c.0.0 ≢ d.0.0) changes

-- the new rows are the old ones but for the nodes of the changes, which have the rows that the changes give
pub record Replaces (changes : List Change) (old new : List Row) : Type 0 where
  pub as_long : length new ≡ length old
  pub put : All (λ c. slice_get new c.0.0 ≡ Some c.1) changes
  pub others : (n : ℕ) → has_change changes n ≡ false → slice_get new n ≡ slice_get old n

-- the nodes of the changes, in order
abbrev pub nodes_of_changes : List Change → List NodeId
nodes_of_changes changes = map (λ c. c.0) changes

-- how often the node is there
abbrev pub count_of : List NodeId → ℕ → ℕ
count_of nodes node = count_by (λ m. m.0 == node) nodes

-- the nodes but this one
abbrev pub without : ℕ → List NodeId → List NodeId
without node nodes = filter (λ m. not (m.0 == node)) nodes

-- whether one of the changes gives the user a row with the node as a member
abbrev pub is_changed_user : List Change → ℕ → ℕ → Bool
is_changed_user changes user node = list_any (λ c. c.0.0 == user && has_member c.1 node) changes

-- some of these users of these nodes may have been added, each where it wasn't
pub record Adds (extra : ℕ → ℕ → Bool) (old new : List (Vec NodeId Global)) : Type 0 where
  pub as_long : length new ≡ length old
  pub others : (user node : ℕ) → extra user node ≡ false → count_of (users_at new node) user ≡ count_of (users_at old node) user
  pub kept : (user node : ℕ) → count_of (users_at old node) user ≤ count_of (users_at new node) user
  pub once : (user node : ℕ) → count_of (users_at old node) user ≤ 1 → count_of (users_at new node) user ≤ 1

-- some of these users of these nodes may have been taken out
pub record Drops (extra : ℕ → ℕ → Bool) (old new : List (Vec NodeId Global)) : Type 0 where
  pub as_long : length new ≡ length old
  pub others : (user node : ℕ) → extra user node ≡ false → count_of (users_at new node) user ≡ count_of (users_at old node) user
  pub fewer : (user node : ℕ) → count_of (users_at new node) user ≤ count_of (users_at old node) user

-- the user and the wanted nodes
abbrev pub pair_of : ℕ → (ℕ → Bool) → ℕ → ℕ → Bool
pair_of user wanted u n = (u == user) && wanted n

-- each user of each node is in the node's list, once; others are there once or not at all, and only these
pub record MayUse (rows : List Row) (extra : ℕ → ℕ → Bool) (users : List (Vec NodeId Global)) : Type 0 where
  pub as_long : length users ≡ length rows
  pub once : (user node : ℕ) → node < length rows → count_of (users_at users node) user ≤ 1
  pub held : (user node : ℕ) → node < length rows → is_user (slice_get rows user) node ≡ true → 0 < count_of (users_at users node) user
  pub none : (user node : ℕ) → node < length rows → is_user (slice_get rows user) node ≡ false → extra user node ≡ false → count_of (users_at users node) user ≡ 0

-- the marks of the wanted nodes are as given, and the others as before
pub record Marks (wanted : ℕ → Bool) (mark : Bool) (old new : List Bool) : Type 0 where
  pub as_long : length new ≡ length old
  pub at : (n : ℕ) → n < length old → wanted n ≡ true → slice_index_or new n false ≡ mark
  pub others : (n : ℕ) → wanted n ≡ false → slice_index_or new n false ≡ slice_index_or old n false

-- the member is in the list, and isn't marked
abbrev pub is_unmarked : List Bool → (ℕ → Bool) → ℕ → Bool
is_unmarked marks wanted n = wanted n && not (slice_index_or marks n false)

-- whether the row of the change has the node as a member, and the row of the change's node among the rows hasn't
abbrev pub is_no_user : List Row → Change → ℕ → Bool
is_no_user rows change n = has_member change.1 n && not (is_user (slice_get rows change.0.0) n)
