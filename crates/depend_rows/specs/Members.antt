-- Lists of nodes, and the groups that they are the members of.
use Rattle.std.specs.Prelude.{◌+◌, Bool, true, false, List, [], ◌∷◌, if◌then◌else◌}
use Rattle.plan_base.specs.Shape.{character_node}
use Rattle.plan_base.specs.declared.ids.NodeId.{NodeId}
use Rattle.plan_base.specs.declared.ids.GoodId.{GoodId}
use Rattle.graph_store.specs.declared.Group.{Group}
use Rattle.graph_store.specs.declared.Row.{Row}
use Rattle.graph_store.specs.Members.{node}

-- the character, where it does something itself
abbrev pub character_where : Bool → List NodeId
character_where does = if does then character_node ∷ [] else []

-- the node of a good
abbrev pub good_node : GoodId → NodeId
good_node good = node (3 + good.0)

-- all of these are needed; any one of these is enough
abbrev pub all_of : List NodeId → Group
all_of members = record { all = true; members = members }

abbrev pub any_of : List NodeId → Group
any_of members = record { all = false; members = members }

-- a group under a condition
abbrev pub group_where : Bool → Group → List Group
group_where holds group = if holds then group ∷ [] else []

abbrev pub row_with : List Group → Row
row_with groups = record { groups = groups }
