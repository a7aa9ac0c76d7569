-- The nodes that several edits touch.
use Rattle.std.proofs.Common.{◌≡◌, ◌∙◌, ◌<◌, ◌≤◌, ◌+◌, ◌++◌, ℕ, zero, suc, Bool, true, false, List, [], ◌∷◌, length, map, get_or, drop, refl, ap, sym, arith}
use Rattle.std.specs.Prelude.{◌≢◌, ◌==◌, ◌||◌, All, AllPairs, filter, if◌then◌else◌, nat_lt}
use Rattle.std.specs.List.{list_any, range_with_len}
use Rattle.std.proofs.lemmas.Bool.Decides.{nat_tests}
use Rattle.std.proofs.lemmas.List.{append_assoc, drop_more}
use Rattle.std.proofs.lemmas.List.Elements.{All-nil, All-cons}
use Rattle.std.proofs.lemmas.List.Kept.{AllPairs-cons}
use Rattle.plan_base.specs.Shape.{node_count}
use Rattle.plan_base.specs.declared.ids.NodeId.{NodeId}
use Rattle.plan_base.specs.declared.shape.Shape.{Shape}
use Rattle.graph_store.specs.Rows.{has_node}
use Rattle.data_edit.specs.declared.edits.Edit.{Edit}
use Rattle.graph_store.specs.Members.{node}
use Rattle.depend_rows.specs.Touched.{numbers_below, touched_by, touched_by_all, touched_numbers}

-- ---- nodes of a stretch of numbers that pass a test
abbrev kept : (ℕ → Bool) → ℕ → ℕ → List NodeId
kept test low count = map (λ k. node (0 + k)) (filter test (range_with_len low count))

none_below : (test : ℕ → Bool) (count low n : ℕ) → n < low → has_node (kept test low count) n ≡ false
none_below test zero low n h = refl
none_below test (suc count) low n h =
    let rest : has_node (kept test (low + 1) count) n ≡ false = none_below test count (low + 1) n (omega (arith, h)) in
    let other : ((0 + low) == n) ≡ false = grind (arith, h) in
    elim (test low) as (λ b. has_node (map (λ k. node (0 + k)) (if b then low ∷ filter test (range_with_len (low + 1) count) else filter test (range_with_len (low + 1) count))) n ≡ false) [
      | true ↦ ap (λ b. b || has_node (kept test (low + 1) count) n) other ∙ rest
      | false ↦ rest
    ]

-- the first number of the stretch is the one, or else the rest decides
tested_here : (test : ℕ → Bool) (low n : ℕ) (rest : List ℕ) (b : Bool) → (low == n) ≡ b → (low ≡ n → has_node (map (λ k. node (0 + k)) rest) n ≡ false) → ((low ≡ n → ⊥) → has_node (map (λ k. node (0 + k)) rest) n ≡ test n)
    → (c : Bool) → test low ≡ c → has_node (map (λ k. node (0 + k)) (if c then low ∷ rest else rest)) n ≡ test n
tested_here test low n rest true is gone later true holds = let first : ((0 + low) == n) ≡ true = grind (arith, is) in ap (λ b. b || has_node (map (λ k. node (0 + k)) rest) n) first ∙ (sym holds ∙ ap test (grind (arith, is)))
tested_here test low n rest true is gone later false holds = gone (grind (arith, is)) ∙ (sym holds ∙ ap test (grind (arith, is)))
tested_here test low n rest false is gone later true holds = let first : ((0 + low) == n) ≡ false = grind (arith, is) in ap (λ b. b || has_node (map (λ k. node (0 + k)) rest) n) first ∙ later (grind (arith, is))
tested_here test low n rest false is gone later false holds = later (grind (arith, is))

as_tested : (test : ℕ → Bool) (count low n : ℕ) → low ≤ n → n < low + count → has_node (kept test low count) n ≡ test n
as_tested test zero low n above below = absurd (omega (arith, above, below))
as_tested test (suc count) low n above below =
    tested_here test low n (filter test (range_with_len (low + 1) count)) (low == n) refl
    (λ same. none_below test count (low + 1) n (omega (arith, same)))
    (λ other. as_tested test count (low + 1) n (omega (arith, above, other)) (omega (arith, below)))
    (test low) refl

kept_within : (test : ℕ → Bool) (count low from to : ℕ) → from ≤ low → low + count ≤ to → All (λ (m : NodeId). (from ≤ m.0) × (m.0 < to)) (kept test low count)
kept_within test zero low from to above enough = All-nil (λ (m : NodeId). (from ≤ m.0) × (m.0 < to))
kept_within test (suc count) low from to above enough =
    let P : NodeId → Type 0 = λ (m : NodeId). (from ≤ m.0) × (m.0 < to) in
    let rest : All P (kept test (low + 1) count) = kept_within test count (low + 1) from to (omega (arith, above)) (omega (arith, enough)) in
    elim (test low) as (λ b. All P (map (λ k. node (0 + k)) (if b then low ∷ filter test (range_with_len (low + 1) count) else filter test (range_with_len (low + 1) count)))) [
      | true ↦ All-cons P (node (0 + low)) (kept test (low + 1) count) (omega (arith, above), omega (arith, enough)) rest
      | false ↦ rest
    ]

kept_once : (test : ℕ → Bool) (count low : ℕ) → AllPairs (λ (m n : NodeId). m.0 ≢ n.0) (kept test low count)
kept_once test zero low = λ i j d less within. absurd (omega (arith, within))
kept_once test (suc count) low =
    let R : NodeId → NodeId → Type 0 = λ (m n : NodeId). m.0 ≢ n.0 in
    let rest : AllPairs R (kept test (low + 1) count) = kept_once test count (low + 1) in
    let above : All (λ (m : NodeId). (low + 1 ≤ m.0) × (m.0 < low + 1 + count)) (kept test (low + 1) count) = kept_within test count (low + 1) (low + 1) (low + 1 + count) (omega arith) (omega arith) in
    elim (test low) as (λ b. AllPairs R (map (λ k. node (0 + k)) (if b then low ∷ filter test (range_with_len (low + 1) count) else filter test (range_with_len (low + 1) count)))) [
      | true ↦ AllPairs-cons R (node (0 + low)) (kept test (low + 1) count) (λ k d within. let later = above k d within in λ same. absurd (omega (arith, later.0, same))) rest
      | false ↦ rest
    ]

-- ---- the numbers of the edits
any_append : (test : ℕ → Bool) (xs ys : List ℕ) → list_any test (xs ++ ys) ≡ (list_any test xs || list_any test ys)
any_append test [] ys = refl
any_append test (x ∷ xs) ys = elim (test x) as (λ b. (b || list_any test (xs ++ ys)) ≡ ((b || list_any test xs) || list_any test ys)) [ true ↦ refl | false ↦ any_append test xs ys ]

below_here : (count n : ℕ) (m : NodeId) (nodes : List NodeId) → n < count → list_any (λ j. j == n) (numbers_below count nodes) ≡ has_node nodes n
    → (b : Bool) → nat_lt m.0 count ≡ b → list_any (λ j. j == n) (if b then m.0 ∷ numbers_below count nodes else numbers_below count nodes) ≡ ((m.0 == n) || has_node nodes n)
below_here count n m nodes h rest true is = ap (λ b. (m.0 == n) || b) rest
below_here count n m nodes h rest false is =
    let other : (m.0 == n) ≡ false = grind (arith, nat_tests, is, h) in
    rest ∙ sym (ap (λ b. b || has_node nodes n) other)

any_below : (count n : ℕ) (nodes : List NodeId) → n < count → list_any (λ j. j == n) (numbers_below count nodes) ≡ has_node nodes n
any_below count n [] h = refl
any_below count n (m ∷ nodes) h = below_here count n m nodes h (any_below count n nodes h) (nat_lt m.0 count) refl

any_of_edits : (shape : Shape) (n : ℕ) (edits : List Edit) → n < node_count shape → list_any (λ j. j == n) (touched_numbers shape edits) ≡ list_any (λ edit. has_node (touched_by shape edit) n) edits
any_of_edits shape n [] h = refl
any_of_edits shape n (edit ∷ edits) h =
    any_append (λ j. j == n) (numbers_below (node_count shape) (touched_by shape edit)) (touched_numbers shape edits)
    ∙ (ap (λ b. b || list_any (λ j. j == n) (touched_numbers shape edits)) (any_below (node_count shape) n (touched_by shape edit) h)
    ∙ ap (λ b. has_node (touched_by shape edit) n || b) (any_of_edits shape n edits h))

-- ---- the laws
pub touched_are : (shape : Shape) (edits : List Edit) (n : ℕ) → n < node_count shape → has_node (touched_by_all shape edits) n ≡ list_any (λ edit. has_node (touched_by shape edit) n) edits
unfolding touched_by_all
touched_are shape edits n h =
    as_tested (λ k. list_any (λ j. j == k) (touched_numbers shape edits)) (node_count shape) 0 n (omega arith) (omega (arith, h)) ∙ any_of_edits shape n edits h

pub touched_below : (shape : Shape) (edits : List Edit) → All (λ (m : NodeId). m.0 < node_count shape) (touched_by_all shape edits)
unfolding touched_by_all
touched_below shape edits = λ k d within. (kept_within (λ i. list_any (λ j. j == i) (touched_numbers shape edits)) (node_count shape) 0 0 (node_count shape) (omega arith) (omega arith) k d within).1

pub touched_once : (shape : Shape) (edits : List Edit) → AllPairs (λ (m n : NodeId). m.0 ≢ n.0) (touched_by_all shape edits)
unfolding touched_by_all
touched_once shape edits = kept_once (λ i. list_any (λ j. j == i) (touched_numbers shape edits)) (node_count shape) 0

-- ---- one more number
pub numbers-more : (count i : ℕ) (d : NodeId) (nodes : List NodeId) (numbers more : List ℕ) (all : List ℕ) → i < length nodes → nat_lt (get_or nodes i d).0 count ≡ true → more ≡ numbers ++ (get_or nodes i d).0 ∷ []
    → numbers ++ numbers_below count (drop i nodes) ≡ all → more ++ numbers_below count (drop (i + 1) nodes) ≡ all
numbers-more count i d nodes numbers more all inside is pushed e =
    ap (λ l. l ++ numbers_below count (drop (i + 1) nodes)) pushed
    ∙ (append_assoc numbers ((get_or nodes i d).0 ∷ []) (numbers_below count (drop (i + 1) nodes))
    ∙ (ap (λ b. numbers ++ (if b then (get_or nodes i d).0 ∷ numbers_below count (drop (i + 1) nodes) else numbers_below count (drop (i + 1) nodes))) (sym is)
    ∙ (ap (λ l. numbers ++ numbers_below count l) (sym (drop_more nodes i d inside)) ∙ e)))

pub numbers-same : (count i : ℕ) (d : NodeId) (nodes : List NodeId) (numbers all : List ℕ) → i < length nodes → nat_lt (get_or nodes i d).0 count ≡ false
    → numbers ++ numbers_below count (drop i nodes) ≡ all → numbers ++ numbers_below count (drop (i + 1) nodes) ≡ all
numbers-same count i d nodes numbers all inside is e =
    ap (λ b. numbers ++ (if b then (get_or nodes i d).0 ∷ numbers_below count (drop (i + 1) nodes) else numbers_below count (drop (i + 1) nodes))) (sym is)
    ∙ (ap (λ l. numbers ++ numbers_below count l) (sym (drop_more nodes i d inside)) ∙ e)
