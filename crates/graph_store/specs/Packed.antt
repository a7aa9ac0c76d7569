-- A row as one list of numbers: for each group a head, and then its members.
use Rattle.std.specs.Prelude.{ℕ, ◌+◌, ◌*◌, ◌≡◌, Bool, List, ◌∷◌, if◌then◌else◌, length, map, flat_map}
use Rattle.graph_store.specs.declared.Group.{Group}
use Rattle.graph_store.specs.declared.Row.{Row}

-- twice the number of members, and 1 more where all of them are needed
abbrev pub head_of : Bool → ℕ → ℕ
head_of all count = 2 * count + (if all then 1 else 0)

-- the head of the group, then the numbers of its members
abbrev pub pack_group : Group → List ℕ
pack_group group = head_of group.all (length group.members) ∷ map (λ m. m.0) group.members

-- one group after the other
abbrev pub packed_groups : List Group → List ℕ
packed_groups groups = flat_map pack_group groups

-- the groups of the row
abbrev pub packed_row : Row → List ℕ
packed_row row = packed_groups row.groups

-- what is read of the first group and of those after it
pub record IsFirstGroup (group : Group) (others : List Group) (flag : Bool) (numbers behind : List ℕ) : Type 0 where
  pub all : flag ≡ group.all
  pub members : numbers ≡ map (λ m. m.0) group.members
  pub rest : behind ≡ packed_groups others
