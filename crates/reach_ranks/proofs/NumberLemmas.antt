-- The groups of a row's list of numbers.
use Rattle.std.proofs.Common.{◌≡◌, ◌∙◌, ◌||◌, ℕ, ◌+◌, ◌<◌, Bool, List, [], ◌∷◌, All, if◌then◌else◌, length, map, get_or, drop, refl, ap, sym, subst}
use Rattle.std.specs.List.{list_all, list_any}
use Rattle.std.proofs.lemmas.List.{drop_more}
use Rattle.std.proofs.lemmas.List.Elements.{All-map}
use Rattle.std.proofs.lemmas.List.Folds.{list_all-map}
use Rattle.plan_base.specs.declared.NodeId.{NodeId}
use Rattle.graph_store.specs.declared.Group.{Group}
use Rattle.graph_store.specs.Packed.{packed_groups, IsFirstGroup}
use Rattle.reach_ranks.specs.Rounds.{Nodes, is_met, is_satisfied}

-- the numbers that are left begin with those of the next group
pub left-first : (groups : List Group) (k : ℕ) (d : Group) (rest : List ℕ) → k < length groups → rest ≡ packed_groups (drop k groups) → rest ≡ packed_groups (get_or groups k d ∷ drop (k + 1) groups)
left-first groups k d rest lt left = left ∙ ap (λ (l : List Group). packed_groups l) (drop_more groups k d lt)

-- the members of the next group are nodes
pub numbers-below : (count : ℕ) (groups : List Group) (k : ℕ) (d : Group) (others : List Group) (all : Bool) (numbers behind : List ℕ) → k < length groups → All (λ group. All (λ m. m.0 < count) group.members) groups → IsFirstGroup (get_or groups k d) others all numbers behind → All (λ m. m < count) numbers
numbers-below count groups k d others all numbers behind lt below is =
    subst (λ (l : List ℕ). All (λ m. m < count) l) (sym is.members) (All-map (λ m. m < count) (λ (m : NodeId). m.0) (get_or groups k d).members (below k d lt))

any-numbers : (set : Nodes) (members : List NodeId) → list_any set (map (λ (m : NodeId). m.0) members) ≡ list_any (λ m. set m.0) members
any-numbers set [] = refl
any-numbers set (m ∷ members) = ap (λ (b : Bool). set m.0 || b) (any-numbers set members)

-- the group is satisfied where its members' numbers meet it
pub met-satisfied : (set : Nodes) (group : Group) (others : List Group) (all : Bool) (numbers behind : List ℕ) → IsFirstGroup group others all numbers behind → is_met set all numbers ≡ is_satisfied set group
met-satisfied set group others all numbers behind is =
    ap (λ (b : Bool). is_met set b numbers) is.all
    ∙ (ap (λ (l : List ℕ). is_met set group.all l) is.members
    ∙ (ap (λ (b : Bool). if group.all then b else list_any set (map (λ (m : NodeId). m.0) group.members)) (list_all-map set (λ (m : NodeId). m.0) group.members)
    ∙ ap (λ (b : Bool). if group.all then list_all (λ (m : NodeId). set m.0) group.members else b) (any-numbers set group.members)))
