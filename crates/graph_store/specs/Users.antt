-- The users of every node, kept beside the rows.
use Rattle.std.specs.Prelude.{ℕ, ◌-◌, ◌^◌, ◌<◌, ◌≡◌, ◌==◌, Bool, false, List, [], ◌∷◌, ◌++◌, Option, Some, None, Vec, if◌then◌else◌, length, slice_get, slice_index_or}
use Rattle.std.specs.Global.{Global}
use Rattle.plan_base.specs.declared.NodeId.{NodeId}
use Rattle.graph_store.specs.declared.Row.{Row}
use Rattle.graph_store.specs.Rows.{AreUsers, AreMembersBelow}

-- the nodes of a list, where there is one
abbrev pub nodes_of : Option (Vec NodeId Global) → List NodeId
nodes_of None = []
nodes_of (Some nodes) = nodes.items

-- the list of a node
abbrev pub users_at : List (Vec NodeId Global) → ℕ → List NodeId
users_at users node = nodes_of (slice_get users node)

-- no node is marked
abbrev pub AreClear : List Bool → Type 0
AreClear marks = (n : ℕ) → slice_index_or marks n false ≡ false

-- the lists hold the users of each node, and no node is marked
pub record IsGraph (rows : List Row) (users : List (Vec NodeId Global)) (marks : List Bool) : Type 0 where
  pub few : length rows < 2 ^ 32 - 1
  pub members : AreMembersBelow (length rows) rows
  pub as_long : length users ≡ length rows
  pub each : (node : ℕ) → node < length rows → AreUsers rows node (users_at users node)
  pub marks_long : length marks ≡ length rows
  pub clear : AreClear marks

-- whether there is a node and it is this one
abbrev pub is_the_node : Option NodeId → ℕ → Bool
is_the_node None node = false
is_the_node (Some m) node = m.0 == node

-- whether the last of the nodes is this one
abbrev pub ends_with : List NodeId → ℕ → Bool
ends_with nodes node = is_the_node (slice_get nodes (length nodes - 1)) node

-- the nodes, with one more at their end where it isn't the last of them
abbrev pub with_user : List NodeId → ℕ → List NodeId
with_user users user = if ends_with users user then users else users ++ (record { 0 = user }) ∷ []

-- the lists of the wanted nodes have this user at their end, and the other lists stay
pub record AddsUser (wanted : ℕ → Bool) (user : ℕ) (old new : List (Vec NodeId Global)) : Type 0 where
  pub as_long : length new ≡ length old
  pub each : (node : ℕ) → node < length old → users_at new node ≡ (if wanted node then with_user (users_at old node) user else users_at old node)
