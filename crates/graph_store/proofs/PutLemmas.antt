-- A node put at its place in a list that rises, and a list put at its place among lists.
use Rattle.std.proofs.Common.{◌≡◌, ◌≢◌, ◌∙◌, ◌<◌, ◌≤◌, ◌+◌, ℕ, zero, suc, Bool, true, false, List, [], ◌∷◌, Vec, length, set, get_or, refl, ap, sym, subst, arith, get_or-set_same, get_or-set_other}
use Rattle.std.specs.Prelude.{◌==◌, ◌||◌, insert}
use Rattle.std.specs.Global.{Global}
use Rattle.std.proofs.lemmas.List.{length-set, map-set}
use Rattle.std.proofs.lemmas.Bool.{or_right}
use Rattle.plan_base.specs.declared.ids.NodeId.{NodeId}
use Rattle.graph_store.specs.Lists.{contents, has_node, list_at, number_at, IsPlaceOf, Rise, Widen}
use Rattle.graph_store.proofs.CommonLemmas.{has_one}
use Rattle.graph_store.proofs.Listing.{list_is, length_contents}
use Rattle.graph_store.proofs.NumbersLemmas.{Rising, rising}
use Rattle.graph_store.proofs.OrderLemmas.{increasing, numbers_of}

-- ---- a node put into a list
either_swap : (a b c : Bool) → (b || (a || c)) ≡ (a || (b || c))
either_swap true true c = refl
either_swap true false c = refl
either_swap false b c = refl

pub has_put : (nodes : List NodeId) (place : ℕ) (n : NodeId) (k : ℕ) → place ≤ length nodes → has_node (insert nodes place n) k ≡ ((n.0 == k) || has_node nodes k)
has_put nodes zero n k within = refl
has_put [] (suc place) n k within = absurd (omega (arith, within))
has_put (m ∷ nodes) (suc place) n k within = ap (λ b. (m.0 == k) || b) (has_put nodes place n k (omega (arith, within))) ∙ either_swap (n.0 == k) (m.0 == k) (has_node nodes k)

put_rising : (nodes : List NodeId) (place low : ℕ) (n : NodeId) → place ≤ length nodes → Rising low (numbers_of nodes) → low ≤ n.0 → ((i : ℕ) → i < place → number_at nodes i < n.0)
    → ((i : ℕ) → place ≤ i → i < length nodes → n.0 < number_at nodes i) → Rising low (numbers_of (insert nodes place n))
unfolding Rising
put_rising [] zero low n within rise least below above = (least, tt)
put_rising (m ∷ nodes) zero low n within rise least below above =
    let first : n.0 < m.0 = above 0 (omega arith) (omega arith) in
    (least, (omega (arith, first), rise.1))
put_rising [] (suc place) low n within rise least below above = absurd (omega (arith, within))
put_rising (m ∷ nodes) (suc place) low n within rise least below above =
    let first : m.0 < n.0 = below 0 (omega arith) in
    (rise.0, put_rising nodes place (m.0 + 1) n (omega (arith, within)) rise.1 (omega (arith, first)) (λ i inside. below (suc i) (omega (arith, inside))) (λ i past inside. above (suc i) (omega (arith, past)) (omega (arith, inside))))

pub put_rises : (nodes : List NodeId) (place : ℕ) (n : NodeId) → Rise nodes → IsPlaceOf n.0 nodes place → has_node nodes n.0 ≡ false → Rise (insert nodes place n)
put_rises nodes place n rise at absent =
    increasing 0 (numbers_of (insert nodes place n))
    (put_rising nodes place 0 n at.within (rising 0 (numbers_of nodes) (λ _. omega arith) rise) (omega arith) at.below (λ i past inside.
    let least : n.0 ≤ number_at nodes i = at.from i past inside in
    let other : number_at nodes i ≢ n.0 = λ is. clash (has_node nodes n.0) (has_one n.0 nodes i inside is) absent in
    omega (arith, least, other)))
  where
    clash : (b : Bool) → b ≡ true → b ≡ false → ⊥
    clash true is not = absurd cc
    clash false is not = absurd cc

pub put_keeps : (nodes : List NodeId) (place : ℕ) (n : NodeId) (k : ℕ) → place ≤ length nodes → has_node nodes k ≡ true → has_node (insert nodes place n) k ≡ true
put_keeps nodes place n k within there = has_put nodes place n k within ∙ or_right (n.0 == k) (has_node nodes k) there

-- ---- a list put among lists
pub list_put : (lists : List (Vec NodeId Global)) (place : ℕ) (new : Vec NodeId Global) → place < length lists → list_at (set lists place new) place ≡ new.items
list_put lists place new within =
    let inside : place < length (contents lists) = omega (arith, within, length_contents lists) in
    ap (λ l. get_or l place []) (map-set (λ (l : Vec NodeId Global). l.items) lists place new) ∙ rw get_or-set_same

list_other : (lists : List (Vec NodeId Global)) (place k : ℕ) (new : Vec NodeId Global) → k ≢ place → list_at (set lists place new) k ≡ list_at lists k
list_other lists place k new other = ap (λ l. get_or l k []) (map-set (λ (l : Vec NodeId Global). l.items) lists place new) ∙ rw get_or-set_other

by_place : (P : List NodeId → Type 0) (lists : List (Vec NodeId Global)) (place k : ℕ) (new : Vec NodeId Global) → place < length lists → (k ≡ place → P new.items) → (k ≢ place → P (list_at lists k)) → (b : Bool) → (k == place) ≡ b → P (list_at (set lists place new) k)
by_place P lists place k new within here elsewhere true is =
    let at : k ≡ place = grind (arith, is) in
    subst P (sym (ap (list_at (set lists place new)) at ∙ list_put lists place new within)) (here at)
by_place P lists place k new within here elsewhere false is =
    let other : k ≢ place = λ at. grind (arith, is, at) in
    subst P (sym (list_other lists place k new other)) (elsewhere other)

pub widen_put : (lists : List (Vec NodeId Global)) (place : ℕ) (list new : Vec NodeId Global) → place < length lists → list ≡ get_or lists place list → Rise new.items → ((k : ℕ) → has_node list.items k ≡ true → has_node new.items k ≡ true)
    → Widen lists (set lists place new)
widen_put lists place list new within is rise kept = record {
  as_long = length-set lists place new;
  rise = λ k inside before. by_place Rise lists place k new within (λ at. rise) (λ other. before) (k == place) refl;
  kept = λ k n there. by_place (λ l. has_node l n ≡ true) lists place k new within
      (λ at. kept n (ap (λ l. has_node l n) (list_is lists place list within is) ∙ ap (λ j. has_node (list_at lists j) n) (sym at) ∙ there)) (λ other. there) (k == place) refl;
}

pub widen_same : (lists : List (Vec NodeId Global)) → Widen lists lists
widen_same lists = record { as_long = refl; rise = λ k inside before. before; kept = λ k n there. there }

pub widen_more : (old between new : List (Vec NodeId Global)) → Widen old between → Widen between new → Widen old new
widen_more old between new first second = record {
  as_long = second.as_long ∙ first.as_long;
  rise = λ k inside before. second.rise k (omega (arith, inside, first.as_long)) (first.rise k inside before);
  kept = λ k n there. second.kept k n (first.kept k n there);
}
