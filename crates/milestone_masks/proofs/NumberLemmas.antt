-- Nodes by their numbers, and the groups of a row's list of numbers.
use Rattle.std.proofs.Common.{◌≡◌, ◌∙◌, ◌||◌, ℕ, ◌+◌, ◌<◌, ◌≤◌, min, Bool, List, [], ◌∷◌, All, length, map, get_or, take, drop, eqb, refl, ap, sym, subst, arith}
use Rattle.std.specs.List.{list_any}
use Rattle.std.proofs.lemmas.List.{drop_more, get_or-map, length-map, take-map, take_all}
use Rattle.std.proofs.lemmas.List.Elements.{All-map}
use Rattle.std.proofs.lemmas.List.Folds.{list_any_more}
use Rattle.plan_base.specs.declared.NodeId.{NodeId}
use Rattle.graph_store.specs.declared.Group.{Group}
use Rattle.graph_store.specs.Rows.{has_node}
use Rattle.graph_store.specs.Packed.{packed_groups, IsFirstGroup}
use Rattle.milestone_masks.specs.Why.{is_support_in}
use Rattle.milestone_masks.specs.Found.{turn_of, Grows, IsLeastTurn}
use Rattle.milestone_masks.specs.Numbers.{group_at, node_at, nodes_at}
use Rattle.milestone_masks.proofs.Gathered.{grows-then}
use Rattle.milestone_masks.proofs.WhyLemmas.{least-more}

-- one member more
pub least-number : (ranks : List ℕ) (members : List ℕ) (i turn next : ℕ) → i < length members → get_or members i 0 < length ranks → get_or ranks (get_or members i 0) 0 < 4294967296 → get_or members i 0 < 4294967296 → next ≡ min turn (turn_of ranks (get_or members i 0)) → IsLeastTurn turn ranks (nodes_at (take i members)) → IsLeastTurn next ranks (nodes_at (take (i + 1) members))
least-number ranks members i turn next lt inside rank small is so_far =
    let at : node_at (get_or members i 0) ≡ get_or (nodes_at members) i (node_at 0) = sym (get_or-map node_at members i 0 (node_at 0) lt) in
    subst
    (λ (l : List NodeId). IsLeastTurn next ranks l)
    (take-map node_at (i + 1) members)
    (least-more
    ranks
    (nodes_at members)
    i
    (node_at 0)
    turn
    next
    (omega (arith, length-map members node_at))
    (subst (λ (m : NodeId). m.0 < length ranks) at inside)
    (subst (λ (m : NodeId). get_or ranks m.0 0 < 4294967296) at rank)
    (subst (λ (m : NodeId). m.0 < 4294967296) at small)
    (subst (λ (m : NodeId). next ≡ min turn (turn_of ranks m.0)) at is)
    (subst (λ (l : List NodeId). IsLeastTurn turn ranks l) (sym (take-map node_at i members)) so_far))

-- a node is among those of the numbers where its number is
pub any-number : (numbers : List ℕ) (n : ℕ) → has_node (nodes_at numbers) n ≡ list_any (λ m. eqb m n) numbers
any-number [] n = refl
any-number (m ∷ numbers) n = ap (λ b. eqb m n || b) (any-number numbers n)

-- what grows by some nodes grows by the same nodes
pub grows-as : (first wanted : ℕ → Bool) (old new : List NodeId) → ((n : ℕ) → wanted n ≡ first n) → Grows first old new → Grows wanted old new
grows-as first wanted old new same grows = record {
  members = λ n. grows.members n ∙ ap (λ b. has_node old n || b) (sym (same n));
  longer = grows.longer;
  kept = grows.kept;
}

pub all-noted : (numbers : List ℕ) (k : ℕ) (old new : List NodeId) → length numbers ≤ k → Grows (λ n. list_any (λ m. eqb m n) (take k numbers)) old new → Grows (λ n. has_node (nodes_at numbers) n) old new
all-noted numbers k old new past grows =
    grows-as (λ n. list_any (λ m. eqb m n) (take k numbers)) (λ n. has_node (nodes_at numbers) n) old new (λ n. any-number numbers n ∙ ap (λ (l : List ℕ). list_any (λ m. eqb m n) l) (sym (take_all k numbers past))) grows

nodes-back : (members : List NodeId) → nodes_at (map (λ m. m.0) members) ≡ members
nodes-back [] = refl
nodes-back (m ∷ members) = ap (λ (l : List NodeId). m ∷ l) (nodes-back members)

-- the group of the members' numbers is the group
group-back : (group : Group) (others : List Group) (all : Bool) (numbers behind : List ℕ) → IsFirstGroup group others all numbers behind → group_at all numbers ≡ group
group-back group others all numbers behind is =
    ap (λ (b : Bool). group_at b numbers) is.all
    ∙ (ap (λ (l : List ℕ). group_at group.all l) is.members ∙ ap (λ (l : List NodeId). record { all = group.all; members = l }) (nodes-back group.members))

-- the numbers that are left begin with those of the next group
pub left-first : (groups : List Group) (k : ℕ) (d : Group) (rest : List ℕ) → k < length groups → rest ≡ packed_groups (drop k groups) → rest ≡ packed_groups (get_or groups k d ∷ drop (k + 1) groups)
left-first groups k d rest lt left = left ∙ ap (λ (l : List Group). packed_groups l) (drop_more groups k d lt)

-- the members of the next group are nodes
pub numbers-below : (count : ℕ) (groups : List Group) (k : ℕ) (d : Group) (others : List Group) (all : Bool) (numbers behind : List ℕ) → k < length groups → All (λ group. All (λ m. m.0 < count) group.members) groups → IsFirstGroup (get_or groups k d) others all numbers behind → All (λ m. m < count) numbers
numbers-below count groups k d others all numbers behind lt below is =
    subst (λ (l : List ℕ). All (λ m. m < count) l) (sym is.members) (All-map (λ m. m < count) (λ (m : NodeId). m.0) (get_or groups k d).members (below k d lt))

-- one group more
pub group-noted : (ranks : List ℕ) (groups : List Group) (k : ℕ) (d : Group) (others : List Group) (all : Bool) (numbers behind : List ℕ) (old found more : List NodeId) → k < length groups → IsFirstGroup (get_or groups k d) others all numbers behind
    → Grows (λ n. list_any (λ g. is_support_in ranks g n) (take k groups)) old found → Grows (is_support_in ranks (group_at all numbers)) found more → Grows (λ n. list_any (λ g. is_support_in ranks g n) (take (k + 1) groups)) old more
group-noted ranks groups k d others all numbers behind old found more lt is grew grows =
    grows-then
    (λ n. list_any (λ g. is_support_in ranks g n) (take k groups))
    (is_support_in ranks (get_or groups k d))
    (λ n. list_any (λ g. is_support_in ranks g n) (take (k + 1) groups))
    old
    found
    more
    (λ n. list_any_more (λ (g : Group). is_support_in ranks g n) groups k d lt)
    grew
    (subst (λ (g : Group). Grows (is_support_in ranks g) found more) (group-back (get_or groups k d) others all numbers behind is) grows)
