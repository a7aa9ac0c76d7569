-- The nodes that were found so far, block by block.
use Rattle.std.proofs.Common.{◌≡◌, ◌∙◌, ◌||◌, ℕ, zero, suc, ◌+◌, ◌-◌, ◌<◌, ◌≤◌, Bool, true, false, not, List, [], ◌∷◌, ◌++◌, Option, None, Some, All, drop, length, slice_get, get_or, eqb, take, map, refl, sym, ap, subst, arith, inl, inr}
use Rattle.std.specs.Prelude.{Result, Ok, Err, OnOk}
use Rattle.std.proofs.Math.Bool.{or_assoc, or-true}
use Rattle.std.proofs.lemmas.Bool.{cases_lt, eqb-true, false≢true, and_parts}
use Rattle.std.proofs.lemmas.List.{get_or-drop, get_or-take, length-drop, length-take-le, map_push, take_more}
use Rattle.std.proofs.lemmas.List.Folds.{list_any_at, list_any_more}
use Rattle.std.proofs.lemmas.Option.{slice_get_cases}
use Rattle.plan_base.specs.declared.NodeId.{NodeId}
use Rattle.graph_store.specs.declared.Row.{Row}
use Rattle.graph_store.specs.Rows.{has_node}
use Rattle.graph_store.proofs.ReplaceLemmas.{or_true}
use Rattle.graph_store.proofs.TidyLemmas.{any-then, has_node-here}
use Rattle.reach_ranks.specs.Rounds.{Nodes}
use Rattle.milestone_masks.specs.Why.{is_support, IsSupported}
use Rattle.milestone_masks.specs.Found.{stands_by, stands_on, stood_on, AreRowsOf, AreSeen, Grows, IsFound}
use Rattle.milestone_masks.proofs.WhyLemmas.{not-true_is}

-- ---- the nodes that were found, of which the first k were visited
pub record IsGathered (rows : List Row) (granted : List Bool) (ranks : List ℕ) (node k : ℕ) (found : List NodeId) : Type 0 where
  pub holds : has_node found node ≡ true
  pub inside : k ≤ length found
  pub supported : (j : ℕ) (d : NodeId) → j < k → (m : ℕ) → stands_on rows granted ranks (get_or found j d).0 m ≡ true → has_node found m ≡ true
  pub least : (set : Nodes) → set node ≡ true → IsSupported rows granted ranks set → (n : ℕ) → has_node found n ≡ true → set n ≡ true

stood-on : (set : Nodes) (rows : List Row) (granted : List Bool) (ranks : List ℕ) (n m : ℕ) → IsSupported rows granted ranks set → set n ≡ true → stands_on rows granted ranks n m ≡ true → set m ≡ true
stood-on set rows granted ranks n m supported is stands =
    let parts = and_parts (not (get_or granted n false)) (is_support ranks (slice_get rows n) m) stands in
    supported n m is (not-true_is (get_or granted n false) parts.0) parts.1

-- a node of the block from k to the end
in-block : (found : List NodeId) (k end i : ℕ) (d : NodeId) → i < end - k → get_or (take (end - k) (drop k found)) i d ≡ get_or found (k + i) d
in-block found k end i d lt = get_or-take (end - k) (drop k found) i d lt ∙ get_or-drop k found i d

block-long : (found : List NodeId) (k end : ℕ) → k ≤ end → end ≤ length found → length (take (end - k) (drop k found)) ≡ end - k
block-long found k end from within = length-take-le (end - k) (drop k found) (omega (arith, length-drop k found))

pub gathered-block : (rows : List Row) (granted : List Bool) (ranks : List ℕ) (node k end : ℕ) (found more : List NodeId) → k ≤ end → end ≤ length found → IsGathered rows granted ranks node k found
    → Grows (stood_on rows granted ranks (take (end - k) (drop k found))) found more → IsGathered rows granted ranks node end more
gathered-block rows granted ranks node k end found more from within are grows =
    let block : List NodeId = take (end - k) (drop k found) in
    let long : length block ≡ end - k = block-long found k end from within in
    record {
      holds = grows.members node ∙ rw are.holds refl;
      inside = omega (arith, grows.longer);
      supported = λ j e below m stands.
          let here : get_or more j e ≡ get_or found j e = grows.kept j e (omega arith) in
          let old_stands : stands_on rows granted ranks (get_or found j e).0 m ≡ true = subst (λ (x : NodeId). stands_on rows granted ranks x.0 m ≡ true) here stands in
          elim (cases_lt j k) [
            | inl before ↦ grows.members m ∙ rw (are.supported j e before m old_stands) refl
            | inr after ↦
                let at : get_or block (j - k) e ≡ get_or found j e = in-block found k end (j - k) e (omega arith) ∙ ap (λ (i : ℕ). get_or found i e) (omega arith) in
                let stood : stood_on rows granted ranks block m ≡ true =
                list_any_at (λ (n : NodeId). stands_on rows granted ranks n.0 m) block (j - k) e (omega arith) (subst (λ (x : NodeId). stands_on rows granted ranks x.0 m ≡ true) (sym at) old_stands) in
                grows.members m ∙ (ap (λ b. has_node found m || b) stood ∙ or-true (has_node found m))
          ];
      least = λ set at supported n is. elim (or_true (has_node found n) (stood_on rows granted ranks block n) (sym (grows.members n) ∙ is)) [
        | inl old ↦ are.least set at supported n old
        | inr new ↦ any-then (λ (x : NodeId). stands_on rows granted ranks x.0 n) block (set n ≡ true) new (λ i d lt stands.
            let place : get_or block i d ≡ get_or found (k + i) d = in-block found k end i d (omega arith) in
            let held : set (get_or found (k + i) d).0 ≡ true = are.least set at supported (get_or found (k + i) d).0 (has_node-here found (k + i) d (omega arith)) in
            stood-on set rows granted ranks (get_or block i d).0 n supported (subst (λ (x : NodeId). set x.0 ≡ true) (sym place) held) stands)
      ];
    }

pub gathered-done : (rows : List Row) (granted : List Bool) (ranks : List ℕ) (node k : ℕ) (found : List NodeId) (seen : List Bool) → length found ≤ k → IsGathered rows granted ranks node k found → AreSeen found seen → length seen ≡ length rows → IsFound rows granted ranks node found
gathered-done rows granted ranks node k found seen past are marks long = record {
  holds = are.holds;
  supported = λ n m is free stands. any-then (λ (x : NodeId). eqb x.0 n) found (has_node found m ≡ true) is (λ j d lt same.
      are.supported j d (omega arith) m (subst (λ (i : ℕ). stands_on rows granted ranks i m ≡ true) (sym (eqb-true (get_or found j d).0 n same)) (rw (free, stands) refl)));
  least = are.least;
  once = marks.once;
  below = λ j d lt. omega (arith, marks.below j d lt);
}

-- ---- what one node after another stands on
pub grows-then : (first second wanted : ℕ → Bool) (old found more : List NodeId) → ((n : ℕ) → wanted n ≡ (first n || second n)) → Grows first old found → Grows second found more → Grows wanted old more
grows-then first second wanted old found more is grew grows = record {
  members = λ n. grows.members n ∙ (ap (λ b. b || second n) (grew.members n) ∙ (or_assoc (has_node old n) (first n) (second n) ∙ ap (λ b. has_node old n || b) (sym (is n))));
  longer = omega (arith, grew.longer, grows.longer);
  kept = λ k d lt. grows.kept k d (omega (arith, grew.longer)) ∙ grew.kept k d lt;
}

-- ---- the rows of a block of nodes
pub row-read : {X : Type 0} (f : X → Row) (refs : List X) (ref : X) (rows : List Row) (nodes : List NodeId) (k : ℕ) (d : NodeId) → k < length nodes → AreRowsOf rows (take k nodes) (map f refs) → slice_get rows (get_or nodes k d).0 ≡ Some (f ref)
    → AreRowsOf rows (take (k + 1) nodes) (map f (refs ++ ref ∷ []))
row-read {X} f refs ref rows nodes k d inside of row =
    let row_at : NodeId → Option Row = λ n. slice_get rows n.0 in
    let some : Row → Option Row = λ r. Some r in
    ap (map some) (map_push f refs ref)
    ∙ (map_push some (map f refs) (f ref)
    ∙ (ap (λ (l : List (Option Row)). l ++ Some (f ref) ∷ []) of
    ∙ (ap (λ (o : Option Row). map row_at (take k nodes) ++ o ∷ []) (sym row)
    ∙ sym (ap (map row_at) (take_more nodes k d inside) ∙ map_push row_at (take k nodes) (get_or nodes k d)))))

row-at : {X : Type 0} (f : X → Row) (refs : List X) (rows : List Row) (nodes : List NodeId) (k : ℕ) (d : NodeId) (e : X) → AreRowsOf rows nodes (map f refs) → k < length refs → slice_get rows (get_or nodes k d).0 ≡ Some (f (get_or refs k e))
row-at f [] rows nodes k d e of lt = absurd (omega arith)
row-at f (ref ∷ refs) rows [] k d e of lt = absurd cc
row-at f (ref ∷ refs) rows (node ∷ nodes) zero d e of lt = cc
row-at f (ref ∷ refs) rows (node ∷ nodes) (suc k) d e of lt =
    let others : AreRowsOf rows nodes (map f refs) = cc in
    row-at f refs rows nodes k d e others (omega arith)

has_row : Option Row → Bool
has_row None = false
has_row (Some r) = true

same-row : (a b : Row) → Some a ≡ Some b → a ≡ b
same-row a b e = cc

pub get-all : (P : Row → Type 0) (rows : List Row) (n : ℕ) (row : Row) → slice_get rows n ≡ Some row → All P rows → P row
unfolding has_row
get-all P rows n row is all =
    elim (slice_get_cases rows n).1 [
      | inl found ↦ subst P (found.3 ∙ same-row found.0 row (sym found.2 ∙ is)) (all n found.0 found.1)
      | inr past ↦ absurd (false≢true (ap has_row (sym past.1 ∙ is)))
    ]

pub row-visited : {X : Type 0} (f : X → Row) (refs : List X) (rows : List Row) (granted : List Bool) (ranks : List ℕ) (start k : ℕ) (d : NodeId) (e : X) (old found more : List NodeId) → start + length refs ≤ length old → k < length refs
    → ((j : ℕ) (x : NodeId) → j < length old → get_or found j x ≡ get_or old j x) → AreRowsOf rows (take (length refs) (drop start old)) (map f refs) → Grows (stood_on rows granted ranks (take k (drop start old))) old found
    → Grows (stands_by (Some (f (get_or refs k e))) granted ranks (get_or found (start + k) d).0) found more → Grows (stood_on rows granted ranks (take (k + 1) (drop start old))) old more
row-visited f refs rows granted ranks start k d e old found more within inside kept of grew grows =
    let nodes : List NodeId = drop start old in
    let same : get_or found (start + k) d ≡ get_or nodes k d = kept (start + k) d (omega arith) ∙ sym (get_or-drop start old k d) in
    let row : slice_get rows (get_or nodes k d).0 ≡ Some (f (get_or refs k e)) =
    ap (λ (x : NodeId). slice_get rows x.0) (sym (get_or-take (length refs) nodes k d inside)) ∙ row-at f refs rows (take (length refs) nodes) k d e of inside in
    let here : Grows (stands_by (Some (f (get_or refs k e))) granted ranks (get_or nodes k d).0) found more =
    subst (λ (x : NodeId). Grows (stands_by (Some (f (get_or refs k e))) granted ranks x.0) found more) same grows in
    let step : Grows (stands_on rows granted ranks (get_or nodes k d).0) found more =
    subst (λ (r : Option Row). Grows (stands_by r granted ranks (get_or nodes k d).0) found more) (sym row) here in
    grows-then
    (stood_on rows granted ranks (take k nodes))
    (stands_on rows granted ranks (get_or nodes k d).0)
    (stood_on rows granted ranks (take (k + 1) nodes))
    old
    found
    more
    (λ m. list_any_more (λ (n : NodeId). stands_on rows granted ranks n.0 m) nodes k d (omega (arith, length-drop start old)))
    grew
    step

pub on-ok : {T E : Type 0} (r : Result T E) (P Q : Type 0) → (P → Q) → OnOk r P → OnOk r Q
on-ok (Ok v) P Q f p = f p
on-ok (Err e) P Q f p = p
