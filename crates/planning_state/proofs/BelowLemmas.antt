-- What supports a node are nodes.
use Rattle.std.proofs.Common.{◌≡◌, ℕ, ◌<◌, ◌||◌, ◌&&◌, zero, suc, Bool, false, true, List, [], ◌∷◌, Option, None, Some, length, get_or, refl, ap, subst, arith, All}
use Rattle.std.specs.Prelude.{◌==◌, if◌then◌else◌, nat_lt, slice_get}
use Rattle.std.specs.List.{list_any}
use Rattle.std.proofs.lemmas.Bool.Decides.{nat_tests}
use Rattle.std.proofs.lemmas.List.Elements.{All-head, All-tail}
use Rattle.std.proofs.lemmas.Option.{get_or_from_slice_get, slice_get_within}
use Rattle.plan_base.specs.declared.ids.NodeId.{NodeId}
use Rattle.graph_store.specs.declared.Group.{Group}
use Rattle.graph_store.specs.declared.Row.{Row}
use Rattle.graph_store.specs.Rows.{AreMembersBelow, HasMembersBelow, has_node}
use Rattle.milestone_masks.specs.Why.{IsWhy, is_first_member, is_support, is_support_in}

either : (a b : Bool) (P : Type 0) → (a ≡ true → P) → (b ≡ true → P) → (a || b) ≡ true → P
either true b P f g e = f refl
either false b P f g e = g e

first : (a b : Bool) → (a && b) ≡ true → a ≡ true
first true b e = refl
first false b e = absurd cc

member-below : (count m : ℕ) (members : List NodeId) → All (λ (x : NodeId). x.0 < count) members → has_node members m ≡ true → m < count
member-below count m [] all h = absurd cc
member-below count m (x ∷ members) all h =
    either (x.0 == m) (has_node members m) (m < count)
    (λ is. let same : x.0 ≡ m = grind (arith, is) in subst (λ (k : ℕ). k < count) same (All-head (λ (x : NodeId). x.0 < count) x members all))
    (λ later. member-below count m members (All-tail (λ (x : NodeId). x.0 < count) x members all) later) h

in-group : (ranks : List ℕ) (group : Group) (m : ℕ) (all : Bool) → (if all then has_node group.members m else is_first_member ranks group.members m) ≡ true → has_node group.members m ≡ true
in-group ranks group m true h = h
in-group ranks group m false h = first (has_node group.members m) _ h

groups-below : (count m : ℕ) (ranks : List ℕ) (groups : List Group) → All (λ (g : Group). All (λ (x : NodeId). x.0 < count) g.members) groups → list_any (λ g. is_support_in ranks g m) groups ≡ true → m < count
groups-below count m ranks [] all h = absurd cc
groups-below count m ranks (g ∷ groups) all h =
    either (is_support_in ranks g m) (list_any (λ g. is_support_in ranks g m) groups) (m < count)
    (λ is. member-below count m g.members (All-head (λ (g : Group). All (λ (x : NodeId). x.0 < count) g.members) g groups all) (in-group ranks g m g.all is))
    (λ later. groups-below count m ranks groups (All-tail (λ (g : Group). All (λ (x : NodeId). x.0 < count) g.members) g groups all) later) h

support-below : (count n m : ℕ) (ranks : List ℕ) (rows : List Row) (o : Option Row) → slice_get rows n ≡ o → AreMembersBelow count rows → is_support ranks o m ≡ true → m < count
support-below count n m ranks rows None e all h = absurd cc
support-below count n m ranks rows (Some row) e all h =
    groups-below count m ranks row.groups (subst (HasMembersBelow count) (get_or_from_slice_get rows n row row e) (all n row (slice_get_within rows n row e))) h

among : (nodes : List NodeId) (k : ℕ) (d : NodeId) → k < length nodes → has_node nodes (get_or nodes k d).0 ≡ true
among [] k d inside = absurd (omega (arith, inside))
among (x ∷ nodes) zero d inside = let same : (x.0 == x.0) ≡ true = grind arith in ap (λ b. b || has_node nodes x.0) same
among (x ∷ nodes) (suc k) d inside =
    elim (x.0 == (get_or nodes k d).0) as (λ b. (b || has_node nodes (get_or nodes k d).0) ≡ true) [ true ↦ refl | false ↦ among nodes k d (omega (arith, inside)) ]

pub why-below : (count : ℕ) (rows : List Row) (granted : List Bool) (ranks : List ℕ) (node : ℕ) (nodes : List NodeId) → AreMembersBelow count rows → node < count → IsWhy rows granted ranks node nodes → All (λ (m : NodeId). m.0 < count) nodes
why-below count rows granted ranks node nodes all inside why k d within =
    let here : nat_lt node count ≡ true = grind (arith, nat_tests, inside) in
    let within_set : nat_lt (get_or nodes k d).0 count ≡ true =
    why.least (λ n. nat_lt n count) here (λ n m _ _ s. below m (support-below count n m ranks rows (slice_get rows n) refl all s)) (get_or nodes k d).0 (among nodes k d within) in
    grind (arith, nat_tests, within_set)
  where
    below : (m : ℕ) → m < count → nat_lt m count ≡ true
    below m h = grind (arith, nat_tests, h)
