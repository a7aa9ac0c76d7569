-- Writing one place of the tree.
use Rattle.std.proofs.Common.{◌≡◌, ◌≢◌, ◌⊎◌, true, false, zero, suc, ℕ, ◌+◌, ◌-◌, ◌*◌, ◌/◌, ◌%◌, ◌<◌, ◌≤◌, min, List, Option, None, Some, length, set, refl, sym, ◌∙◌, ap, ap₂, subst, arith, inl, inr, length-set, IfSome, IfNone, get_or-set_same, get_or-set_other}
use Rattle.std.proofs.Math.ListN.{replicate}
use Rattle.std.proofs.lemmas.Bool.{cases_lt, cases_eq, cases_Bool, eq-eqb, eqb-true, eqb-false, ne_eqb}
use Rattle.std.proofs.lemmas.List.{get_or-replicate, length-replicate, set-set, set_comm, set-get_or}
use Rattle.std.proofs.lemmas.Bool.Decides.{nat_tests}
use Rattle.index_heap.specs.Keys.{key_at, IsLeastAt}
use Rattle.index_heap.specs.Tree.{comes_first, decoded, encoded, entry_at, lesser_entry, may_wait, no_entry, sibling, with_node, without, IsLesserAt, AreLesserBut, AreLesser, IsHeap, IsTree}

pub entry-set_other : (tree : List ℕ) (p i x : ℕ) → i ≢ p → entry_at (set tree p x) i ≡ entry_at tree i
entry-set_other tree p i x ne = get_or-set_other tree p i x 0 ne

pub lesser-kept : (tree : List ℕ) (p i x : ℕ) → i ≢ p → 2 * i ≢ p → 2 * i + 1 ≢ p → IsLesserAt tree i → IsLesserAt (set tree p x) i
lesser-kept tree p i x a b c h =
    entry-set_other tree p i x a
    ∙ (h ∙ ap₂ (λ r s. min r s) (sym (entry-set_other tree p (2 * i) x b)) (sym (entry-set_other tree p (2 * i + 1) x c)))

pub climb-start : (tree : List ℕ) (n at x : ℕ) → n ≤ at → AreLesser tree n → AreLesserBut (set tree at x) n (at / 2)
climb-start tree n at x le h = λ i p lt ne. lesser-kept tree at i x (λ e. omega arith) (λ e. ne (omega arith)) (λ e. ne (omega arith)) (h i p lt)

pub climb-step : (tree : List ℕ) (n p x : ℕ) → length tree ≡ 2 * n → 0 < p → p < n → AreLesserBut tree n p → x ≡ min (entry_at tree (2 * p)) (entry_at tree (2 * p + 1)) → AreLesserBut (set tree p x) n (p / 2)
climb-step tree n p x long pos lt h e = λ i q in_i ne.
    elim (cases_eq i p) [
      | inl same ↦ let back : p ≡ i = sym same in
          subst
          (λ k. IsLesserAt (set tree p x) k)
          back
          (get_or-set_same tree p x 0 (omega arith)
          ∙ (e ∙ ap₂ (λ r s. min r s) (sym (entry-set_other tree p (2 * p) x (λ z. omega arith))) (sym (entry-set_other tree p (2 * p + 1) x (λ z. omega arith)))))
      | inr other ↦ lesser-kept tree p i x other (λ z. ne (omega arith)) (λ z. ne (omega arith)) (h i q in_i other)
    ]

-- a place that stays as it is ends the climb
pub climb-ends : (tree : List ℕ) (n p : ℕ) → AreLesserBut tree n p → entry_at tree p ≡ min (entry_at tree (2 * p)) (entry_at tree (2 * p + 1)) → AreLesser tree n
climb-ends tree n p h e = λ i q lt.
    elim (cases_eq i p) [
      | inl same ↦ subst (λ k. IsLesserAt tree k) (sym same) e
      | inr other ↦ h i q lt other
    ]

-- the lesser of a place and its sibling is that of the two below the place above
pub lesser-of_both : (tree : List ℕ) (j least : ℕ) → entry_at tree j ≡ least → min least (entry_at tree (sibling j)) ≡ min (entry_at tree (2 * (j / 2))) (entry_at tree (2 * (j / 2) + 1))
lesser-of_both tree j least here =
    elim (cases_eq (2 * (j / 2)) j) [
      | inl even ↦
          let own : entry_at tree (2 * (j / 2)) ≡ least = ap (λ i. entry_at tree i) even ∙ here in
          let next : entry_at tree (2 * (j / 2) + 1) ≡ entry_at tree (sibling j) = ap (λ i. entry_at tree i) (omega arith) in
          sym (ap₂ (λ r s. min r s) own next)
      | inr odd ↦
          let up : 2 * (j / 2) + 1 ≡ j = omega arith in
          let own : entry_at tree (2 * (j / 2) + 1) ≡ least = ap (λ i. entry_at tree i) up ∙ here in
          let before : entry_at tree (2 * (j / 2)) ≡ entry_at tree (sibling j) = ap (λ i. entry_at tree i) (omega arith) in
          omega (arith, own, before)
    ]

-- some leaf has the root's number

pub min-either : (a b : ℕ) → (min a b ≡ a) ⊎ (min a b ≡ b)
min-either a b = elim (cases_lt b a) [ inl less ↦ inr (omega arith) | inr more ↦ inl (omega arith) ]

pub leaf-of : (tree : List ℕ) (n d i : ℕ) → AreLesser tree n → 0 < i → i < 2 * n → 2 * n ≤ i + d → (j : ℕ) × (n ≤ j) × (j < 2 * n) × (entry_at tree i ≡ entry_at tree j)
leaf-of tree n zero i h p lt le = absurd (omega arith)
leaf-of tree n (suc d) i h p lt le =
    elim (cases_lt i n) [
      | inl inner ↦ elim (min-either (entry_at tree (2 * i)) (entry_at tree (2 * i + 1))) [
        | inl left ↦ let r = leaf-of tree n d (2 * i) h (omega arith) (omega arith) (omega arith) in (r.0, r.1, r.2, h i p inner ∙ (left ∙ r.3))
        | inr right ↦ let r = leaf-of tree n d (2 * i + 1) h (omega arith) (omega arith) (omega arith) in (r.0, r.1, r.2, h i p inner ∙ (right ∙ r.3))
      ]
      | inr leaf ↦ (i, leaf, lt, refl)
    ]

pub root-is_leaf : (tree : List ℕ) (n : ℕ) → 0 < n → AreLesser tree n → (j : ℕ) × (n ≤ j) × (j < 2 * n) × (entry_at tree 1 ≡ entry_at tree j)
root-is_leaf tree n p h = leaf-of tree n (2 * n) 1 h (omega arith) (omega arith) (omega arith)

-- no place has a number below the root's

pub least-at_root : (tree : List ℕ) (n d j : ℕ) → AreLesser tree n → 0 < j → j < 2 * n → j ≤ d → entry_at tree 1 ≤ entry_at tree j
least-at_root tree n zero j h p lt le = absurd (omega arith)
least-at_root tree n (suc d) j h p lt le =
    elim (cases_lt 1 j) [
      | inl below ↦
          let above : entry_at tree 1 ≤ entry_at tree (j / 2) = least-at_root tree n d (j / 2) h (omega arith) (omega arith) (omega arith) in
          let lesser : entry_at tree (j / 2) ≡ min (entry_at tree (2 * (j / 2))) (entry_at tree (2 * (j / 2) + 1)) = h (j / 2) (omega arith) (omega arith) in
          elim (cases_eq (2 * (j / 2)) j) [
            | inl even ↦ let own : entry_at tree (2 * (j / 2)) ≡ entry_at tree j = ap (λ i. entry_at tree i) even in omega arith
            | inr odd ↦
                let up : 2 * (j / 2) + 1 ≡ j = omega arith in
                let own : entry_at tree (2 * (j / 2) + 1) ≡ entry_at tree j = ap (λ i. entry_at tree i) up in
                omega arith
          ]
      | inr root ↦ let one : j ≡ 1 = omega arith in let own : entry_at tree j ≡ entry_at tree 1 = ap (λ i. entry_at tree i) one in omega arith
    ]

-- the order of entries

pub comes_first-total : (a b c d : ℕ) → comes_first (a, b) (c, d) ≡ false → comes_first (c, d) (a, b) ≡ true
comes_first-total a b c d h = grind (arith, nat_tests)

pub comes_first-tells : (a b c d : ℕ) → comes_first (a, b) (c, d) ≡ true → (a < c) ⊎ ((a ≡ c) × (b ≤ d))
comes_first-tells a b c d h = grind (arith, nat_tests)

-- the tree after a write

pub tree-written : (n : ℕ) (keys : List (Option ℕ)) (tree new : List ℕ) (node : ℕ) (key : Option ℕ) → node < n → IsTree n keys tree → length new ≡ 2 * n → AreLesser new n → entry_at new (n + node) ≡ encoded (with_node key node) → ((i : ℕ) → n ≤ i → i < 2 * n → (i ≡ n + node → ⊥) → entry_at new i ≡ entry_at tree i) → IsTree n (set keys node key) new
tree-written n keys tree new node key lt is long inner here others = record {
  keys_long = length-set keys node key ∙ is.keys_long;
  tree_long = long;
  leaves = λ v in_v. elim (cases_eq v node) [
    | inl same ↦ subst
        (λ m. entry_at new (n + m) ≡ encoded (with_node (key_at (set keys node key) m) m))
        (sym same)
        (here ∙ ap (λ o. encoded (with_node o node)) (sym (get_or-set_same keys node key None (omega (arith, is.keys_long)))))
    | inr other ↦ others (n + v) (omega arith) (omega arith) (λ e. other (omega arith))
        ∙ (is.leaves v in_v ∙ ap (λ o. encoded (with_node o v)) (sym (get_or-set_other keys node v key None other)))
  ];
  inner = inner;
}

-- what the root tells of the keys

pub none_key : (o : Option ℕ) (k : ℕ) → o ≡ None → o ≡ Some k → ⊥
none_key o k e f = cc

pub parts-of : (x k v : ℕ) → x ≡ k * 4294967296 + v → v < 4294967296 → (x / 4294967296 ≡ k) × (x % 4294967296 ≡ v)
parts-of x k v e lt = (omega arith, omega arith)

-- a number that isn't that of no entry is that of the node's key
pub number-of : (x v : ℕ) (o : Option ℕ) → v < 4294967295 → x ≡ encoded (with_node o v) → (x ≡ no_entry → ⊥) → (o ≡ Some (x / 4294967296)) × (v ≡ x % 4294967296)
number-of x v None lt e some = absurd (some e)
number-of x v (Some k) lt e some =
    let parts = parts-of x k v e (omega arith) in
    (ap (λ j. Some j) (sym parts.0), sym parts.1)

pub number-some : (k v : ℕ) → v < 4294967295 → k * 4294967296 + v ≡ no_entry → ⊥
number-some k v lt e = omega arith

pub leaf-some : (n : ℕ) (keys : List (Option ℕ)) (tree : List ℕ) (v k : ℕ) → IsTree n keys tree → v < n → key_at keys v ≡ Some k → entry_at tree (n + v) ≡ k * 4294967296 + v
leaf-some n keys tree v k is lt at = is.leaves v lt ∙ ap (λ o. encoded (with_node o v)) at

pub least-at : (n : ℕ) (keys : List (Option ℕ)) (tree : List ℕ) → 0 < n → n < 4294967296 → IsTree n keys tree → (entry_at tree 1 ≡ no_entry → ⊥) → IsLeastAt keys n (entry_at tree 1 % 4294967296) (entry_at tree 1 / 4294967296)
least-at n keys tree pos few is some =
    let leaf = root-is_leaf tree n pos is.inner in
    let v : ℕ = leaf.0 - n in
    let place : n + v ≡ leaf.0 = omega (arith, leaf.1) in
    let inside : v < n = omega (arith, leaf.1, leaf.2) in
    let own = number-of (entry_at tree 1) v (key_at keys v) (omega arith) (leaf.3 ∙ (ap (λ i. entry_at tree i) (sym place) ∙ is.leaves v inside)) some in
    let first : (m k : ℕ) → m < n → key_at keys m ≡ Some k → entry_at tree 1 ≤ k * 4294967296 + m =
    λ m k lt at. omega (arith, least-at_root tree n (2 * n) (n + m) is.inner (omega arith) (omega arith) (omega arith), leaf-some n keys tree m k is lt at) in
    record {
      inside = omega (arith, own.1);
      here = subst (λ m. key_at keys m ≡ Some (entry_at tree 1 / 4294967296)) own.1 own.0;
      least = λ m k lt at. omega (arith, first m k lt at);
      lowest = λ m k below at. omega (arith, own.1, first m k (omega (arith, own.1)) at);
    }

pub none-at : (n : ℕ) (keys : List (Option ℕ)) (tree : List ℕ) → n < 4294967296 → IsTree n keys tree → ((i : ℕ) → i < 2 * n → entry_at tree i ≤ no_entry) → entry_at tree 1 ≡ no_entry → (v : ℕ) → v < n → (o : Option ℕ) → key_at keys v ≡ o → o ≡ None
none-at n keys tree few is fits e v lt None at = refl
none-at n keys tree few is fits e v lt (Some k) at =
    absurd (number-some k v (omega arith) (omega (arith, fits (n + v) (omega arith), least-at_root tree n (2 * n) (n + v) is.inner (omega arith) (omega arith) (omega arith), leaf-some n keys tree v k is lt at)))

-- what the number at the root tells, where there are nodes
pub IfSome-least : (n : ℕ) (keys : List (Option ℕ)) (tree : List ℕ) → 0 < n → n < 4294967296 → IsTree n keys tree → IfSome (decoded (entry_at tree 1)) (λ pair. IsLeastAt keys n pair.1 pair.0)
IfSome-least n keys tree pos few is =
    elim (cases_eq (entry_at tree 1) no_entry) [
      | inl same ↦ rw (eq-eqb (entry_at tree 1) no_entry same) tt
      | inr other ↦ rw (ne_eqb (entry_at tree 1) no_entry other) (least-at n keys tree pos few is other)
    ]

pub IfNone-least : (n : ℕ) (keys : List (Option ℕ)) (tree : List ℕ) → n < 4294967296 → IsTree n keys tree → ((i : ℕ) → i < 2 * n → entry_at tree i ≤ no_entry) → IfNone (decoded (entry_at tree 1)) ((v : ℕ) → v < n → key_at keys v ≡ None)
IfNone-least n keys tree few is fits =
    elim (cases_eq (entry_at tree 1) no_entry) [
      | inl same ↦ rw (eq-eqb (entry_at tree 1) no_entry same) (λ v lt. none-at n keys tree few is fits same v lt (key_at keys v) refl)
      | inr other ↦ rw (ne_eqb (entry_at tree 1) no_entry other) tt
    ]

-- a tree of nodes without keys

pub at_none : (n i : ℕ) → i < 2 * n → entry_at (replicate (2 * n) no_entry) i ≡ no_entry
at_none n i lt = get_or-replicate (2 * n) i no_entry 0 lt

pub heap_made : (n : ℕ) → n < 4294967296 → IsHeap (replicate n None) (replicate (2 * n) 18446744073709551615) None
heap_made n few =
    let long : length (replicate {A = Option ℕ} n None) ≡ n = length-replicate n None in
    record {
      few = omega arith;
      others = subst
          (λ (m : ℕ). IsTree m (replicate n None) (replicate (2 * n) no_entry))
          (sym long)
          (record {
            keys_long = long;
            tree_long = length-replicate (2 * n) no_entry;
            leaves = λ v lt. at_none n (n + v) (omega arith) ∙ ap (λ o. encoded (with_node o v)) (sym (get_or-replicate n v None None lt));
            inner = λ i pos lt.
                let here : entry_at (replicate (2 * n) no_entry) i ≡ no_entry = at_none n i (omega arith) in
                let left : entry_at (replicate (2 * n) no_entry) (2 * i) ≡ no_entry = at_none n (2 * i) (omega arith) in
                let right : entry_at (replicate (2 * n) no_entry) (2 * i + 1) ≡ no_entry = at_none n (2 * i + 1) (omega arith) in
                omega arith;
          });
      waits = tt;
    }

-- the tree beside which a node may wait

pub waits-alone : (keys : List (Option ℕ)) (node : ℕ) (key : Option ℕ) → without (with_node key node) (set keys node key) ≡ set keys node None
waits-alone keys node None = refl
waits-alone keys node (Some k) = set-set keys node (Some k) None

pub freed : (keys : List (Option ℕ)) (waiting : Option (ℕ × ℕ)) (node : ℕ) (key : Option ℕ) → key_at keys node ≡ key → may_wait waiting node key ≡ true → without waiting keys ≡ set keys node None
freed keys None node None e h = sym (ap (λ o. set keys node o) (sym e) ∙ set-get_or keys node None)
freed keys None node (Some k) e h = cc
freed keys (Some p) node key e h = ap (λ v. set keys v None) (eqb-true p.1 node h)

pub waits-here : (keys : List (Option ℕ)) (node : ℕ) (key : Option ℕ) → node < length keys → IfSome (with_node key node) (λ p. (p.1 < length (set keys node key)) × (key_at (set keys node key) p.1 ≡ Some p.0))
waits-here keys node None lt = tt
waits-here keys node (Some k) lt = (omega (arith, length-set keys node (Some k)), get_or-set_same keys node (Some k) None lt)

-- the node waits with its next key, or no longer
pub heap-waits : (keys : List (Option ℕ)) (tree : List ℕ) (waiting : Option (ℕ × ℕ)) (node : ℕ) (key : Option ℕ) → node < length keys → IsHeap keys tree waiting → may_wait waiting node (key_at keys node) ≡ true → IsHeap (set keys node key) tree (with_node key node)
heap-waits keys tree waiting node key lt is h = record {
  few = omega (arith, length-set keys node key, is.few);
  others = subst (λ (n : ℕ). IsTree n (without (with_node key node) (set keys node key)) tree) (sym (length-set keys node key))
      (subst (λ (ks : List (Option ℕ)). IsTree (length keys) ks tree) (freed keys waiting node (key_at keys node) refl h ∙ sym (waits-alone keys node key)) is.others);
  waits = waits-here keys node key lt;
}

-- the node has its next key already
pub heap-stays : (keys : List (Option ℕ)) (tree : List ℕ) (waiting : Option (ℕ × ℕ)) (node : ℕ) (key : Option ℕ) → IsHeap keys tree waiting → key_at keys node ≡ key → IsHeap (set keys node key) tree waiting
heap-stays keys tree waiting node key is e = subst (λ (ks : List (Option ℕ)). IsHeap ks tree waiting) (sym (ap (λ o. set keys node o) (sym e) ∙ set-get_or keys node None)) is

-- another node waits, or none does
pub without-other : (keys : List (Option ℕ)) (waiting : Option (ℕ × ℕ)) (node : ℕ) (kept key : Option ℕ) → may_wait waiting node kept ≡ false → without waiting (set keys node key) ≡ set (without waiting keys) node key
without-other keys None node kept key h = refl
without-other keys (Some p) node kept key h = set_comm keys node p.1 key None (λ e. eqb-false p.1 node h (sym e))

pub waits-on : (keys : List (Option ℕ)) (waiting : Option (ℕ × ℕ)) (node : ℕ) (kept key : Option ℕ) → may_wait waiting node kept ≡ false → IfSome waiting (λ p. (p.1 < length keys) × (key_at keys p.1 ≡ Some p.0)) → IfSome waiting (λ p. (p.1 < length (set keys node key)) × (key_at (set keys node key) p.1 ≡ Some p.0))
waits-on keys None node kept key h w = tt
waits-on keys (Some p) node kept key h w = (omega (arith, length-set keys node key, w.0), get_or-set_other keys node p.1 key None (λ e. eqb-false p.1 node h e) ∙ w.1)

pub length-without : (waiting : Option (ℕ × ℕ)) (keys : List (Option ℕ)) → length (without waiting keys) ≡ length keys
length-without None keys = refl
length-without (Some p) keys = length-set keys p.1 None

-- the tree has the node's next key
pub heap-written : (keys : List (Option ℕ)) (tree new : List ℕ) (waiting : Option (ℕ × ℕ)) (node : ℕ) (key : Option ℕ) → node < length keys → IsHeap keys tree waiting → may_wait waiting node (key_at keys node) ≡ false → length new ≡ 2 * length keys → AreLesser new (length keys) → entry_at new (length keys + node) ≡ encoded (with_node key node) → ((i : ℕ) → length keys ≤ i → i < 2 * length keys → (i ≡ length keys + node → ⊥) → entry_at new i ≡ entry_at tree i) → IsHeap (set keys node key) new waiting
heap-written keys tree new waiting node key lt is h long inner here others = record {
  few = omega (arith, length-set keys node key, is.few);
  others = subst (λ (n : ℕ). IsTree n (without waiting (set keys node key)) new) (sym (length-set keys node key))
      (subst (λ (ks : List (Option ℕ)). IsTree (length keys) ks new) (sym (without-other keys waiting node (key_at keys node) key h))
      (tree-written (length keys) (without waiting keys) tree new node key lt is.others long inner here others));
  waits = waits-on keys waiting node (key_at keys node) key h is.waits;
}

-- the least of the tree and of the node that waits

abbrev pub IsLeastOf : List (Option ℕ) → Option (ℕ × ℕ) → Type 0
IsLeastOf keys o = IfSome o (λ pair. IsLeastAt keys (length keys) pair.1 pair.0) × IfNone o ((v : ℕ) → v < length keys → key_at keys v ≡ None)

-- a node that has a key waits, or is among the others
pub other_key : (keys : List (Option ℕ)) (p : ℕ × ℕ) (v k : ℕ) → key_at keys p.1 ≡ Some p.0 → key_at keys v ≡ Some k → ((v ≡ p.1) × (k ≡ p.0)) ⊎ ((v ≢ p.1) × (key_at (set keys p.1 None) v ≡ Some k))
other_key keys p v k e at =
    elim (cases_eq v p.1) [
      | inl same ↦ inl (same, (let f : Some k ≡ Some p.0 = sym at ∙ (ap (λ i. key_at keys i) same ∙ e) in cc))
      | inr other ↦ inr (other, get_or-set_other keys p.1 v None None other ∙ at)
    ]

waits-first : (keys : List (Option ℕ)) (p q : ℕ × ℕ) → p.1 < length keys → key_at keys p.1 ≡ Some p.0 → IsLeastAt (set keys p.1 None) (length keys) q.1 q.0 → comes_first p q ≡ true → IsLeastAt keys (length keys) p.1 p.0
waits-first keys p q lt e is first =
    let t : (p.0 < q.0) ⊎ ((p.0 ≡ q.0) × (p.1 ≤ q.1)) = comes_first-tells p.0 p.1 q.0 q.1 first in
    record {
      inside = lt;
      here = e;
      least = λ m k below at. elim (other_key keys p m k e at) [
        | inl own ↦ omega (arith, own.1)
        | inr other ↦ let le : q.0 ≤ k = is.least m k below other.1 in elim t [ inl less ↦ omega arith | inr same ↦ omega (arith, same.0) ]
      ];
      lowest = λ m k below at. elim (other_key keys p m k e at) [
        | inl own ↦ absurd (omega (arith, own.0))
        | inr other ↦ let le : q.0 ≤ k = is.least m k (omega arith) other.1 in elim t [
          | inl less ↦ omega arith
          | inr same ↦ let l : q.0 < k = is.lowest m k (omega (arith, same.1)) other.1 in omega (arith, same.0)
        ]
      ];
    }

tree-first : (keys : List (Option ℕ)) (p q : ℕ × ℕ) → p.1 < length keys → key_at keys p.1 ≡ Some p.0 → IsLeastAt (set keys p.1 None) (length keys) q.1 q.0 → comes_first p q ≡ false → IsLeastAt keys (length keys) q.1 q.0
tree-first keys p q lt e is first =
    let t : (q.0 < p.0) ⊎ ((q.0 ≡ p.0) × (q.1 ≤ p.1)) = comes_first-tells q.0 q.1 p.0 p.1 (comes_first-total p.0 p.1 q.0 q.1 first) in
    let apart : q.1 ≢ p.1 = λ same. none_key (key_at (set keys p.1 None) q.1) q.0 (ap (λ i. key_at (set keys p.1 None) i) same ∙ get_or-set_same keys p.1 None None lt) is.here in
    record {
      inside = is.inside;
      here = sym (get_or-set_other keys p.1 q.1 None None apart) ∙ is.here;
      least = λ m k below at. elim (other_key keys p m k e at) [
        | inl own ↦ elim t [ inl less ↦ omega (arith, own.1) | inr same ↦ omega (arith, own.1, same.0) ]
        | inr other ↦ is.least m k below other.1
      ];
      lowest = λ m k below at. elim (other_key keys p m k e at) [
        | inl own ↦ elim t [ inl less ↦ omega (arith, own.1) | inr same ↦ absurd (omega (arith, own.0, same.1)) ]
        | inr other ↦ is.lowest m k below other.1
      ];
    }

waits-only : (keys : List (Option ℕ)) (p : ℕ × ℕ) → p.1 < length keys → key_at keys p.1 ≡ Some p.0 → ((v : ℕ) → v < length keys → key_at (set keys p.1 None) v ≡ None) → IsLeastAt keys (length keys) p.1 p.0
waits-only keys p lt e none = record {
  inside = lt;
  here = e;
  least = λ m k below at. elim (other_key keys p m k e at) [
    | inl own ↦ omega (arith, own.1)
    | inr other ↦ absurd (none_key (key_at (set keys p.1 None) m) k (none m below) other.1)
  ];
  lowest = λ m k below at. elim (other_key keys p m k e at) [
    | inl own ↦ absurd (omega (arith, own.0))
    | inr other ↦ absurd (none_key (key_at (set keys p.1 None) m) k (none m (omega arith)) other.1)
  ];
}

least-both : (keys : List (Option ℕ)) (p : ℕ × ℕ) (o : Option (ℕ × ℕ)) → p.1 < length keys → key_at keys p.1 ≡ Some p.0 → IfSome o (λ pair. IsLeastAt (set keys p.1 None) (length keys) pair.1 pair.0) → IfNone o ((v : ℕ) → v < length keys → key_at (set keys p.1 None) v ≡ None) → IsLeastOf keys (lesser_entry (Some p) o)
least-both keys p None lt e some none = (waits-only keys p lt e none, tt)
least-both keys p (Some q) lt e some none =
    elim (cases_Bool (comes_first p q)) [
      | inl first ↦ rw first (waits-first keys p q lt e some first, tt)
      | inr second ↦ rw second (tree-first keys p q lt e some second, tt)
    ]

pub heap-least : (keys : List (Option ℕ)) (tree : List ℕ) (waiting : Option (ℕ × ℕ)) → 0 < length keys → ((i : ℕ) → i < 2 * length keys → entry_at tree i ≤ no_entry) → IsHeap keys tree waiting → IsLeastOf keys (lesser_entry waiting (decoded (entry_at tree 1)))
heap-least keys tree None pos fits is = (IfSome-least (length keys) keys tree pos is.few is.others, IfNone-least (length keys) keys tree is.few is.others fits)
heap-least keys tree (Some p) pos fits is =
    least-both keys p (decoded (entry_at tree 1)) is.waits.0 is.waits.1
    (IfSome-least (length keys) (set keys p.1 None) tree pos is.few is.others)
    (IfNone-least (length keys) (set keys p.1 None) tree is.few is.others fits)
