-- Nodes and groups by the numbers that stand for them in a row's list of numbers.
use Rattle.std.specs.Prelude.{ℕ, Bool, List, map}
use Rattle.plan_base.specs.declared.NodeId.{NodeId}
use Rattle.graph_store.specs.declared.Group.{Group}

-- the node with a number
abbrev pub node_at : ℕ → NodeId
node_at n = record { 0 = n }

-- the nodes with these numbers
abbrev pub nodes_at : List ℕ → List NodeId
nodes_at numbers = map node_at numbers

-- the group of these nodes
abbrev pub group_at : Bool → List ℕ → Group
group_at all numbers = record { all = all; members = nodes_at numbers }
