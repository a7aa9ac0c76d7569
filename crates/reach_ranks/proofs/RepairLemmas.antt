-- Taking out a node: what it gets, what is left to do, and whose given rank changes.
use Rattle.std.proofs.Common.{◌≡◌, ◌≢◌, ℕ, zero, suc, ◌+◌, ◌*◌, ◌<◌, ◌≤◌, Bool, true, false, cond, eqb, not, ◌&&◌, ◌||◌, List, [], ◌∷◌, Option, Some, None, length, slice_get, get_or, set, take, refl, sym, ◌∙◌, ap, ap₂, subst, arith, inl, inr, length-set, get_or-set_same, get_or-set_other}
use Rattle.std.proofs.Math.Path.{fun_ext}
use Rattle.std.proofs.Math.ListN.{replicate, get_or-eq_default}
use Rattle.std.proofs.lemmas.List.{get_or-replicate, length-replicate, ext_get_or}
use Rattle.std.proofs.lemmas.List.Folds.{list_any_more}
use Rattle.std.proofs.lemmas.Bool.{cases_lt, cases_eq, cases_Bool, false≢true, or_parts, ne_eqb, eqb-false}
use Rattle.std.proofs.lemmas.Bool.Decides.{nat_tests}
use Rattle.std.specs.List.{list_all, list_any, count_by}
use Rattle.plan_base.specs.declared.NodeId.{NodeId}
use Rattle.graph_store.specs.declared.Group.{Group}
use Rattle.graph_store.specs.declared.Row.{Row}
use Rattle.graph_store.specs.Rows.{has_node, is_user, user_count, AreUsers}
use Rattle.index_heap.specs.Keys.{key_at, IsLeastAt}
use Rattle.reach_ranks.specs.Rounds.{World, Nodes, is_satisfied, has_groups, is_barred, is_granted, admits, IsWhole}
use Rattle.reach_ranks.specs.Ranks.{rank, is_one_to, within, Agrees}
use Rattle.reach_ranks.proofs.RankLemmas.{one_to_yes, one_to-rank}
use Rattle.reach_ranks.specs.Given.{one_above_least, given, lesser, key_of, HoldsBounds, HoldsKeys, Refreshes, next_kept, visits_left, sum_below, work_left}
use Rattle.reach_ranks.proofs.GivenLemmas.{none_some, key_of-some, key_of-same, given-from_agrees, given-settled, given-le, settled-from_heap, within-settled}

-- a node whose row does not have the changed one as a member is given the same rank

pub list_all-same : {X : Type 0} (p q bad : X → Bool) → ((x : X) → bad x ≡ false → p x ≡ q x) → (xs : List X) → list_any bad xs ≡ false → list_all p xs ≡ list_all q xs
list_all-same p q bad f [] h = refl
list_all-same p q bad f (x ∷ xs) h =
    let parts = or_parts (bad x) (list_any bad xs) h in ap₂ (λ a b. a && b) (f x parts.0) (list_all-same p q bad f xs parts.1)

pub list_any-same : {X : Type 0} (p q bad : X → Bool) → ((x : X) → bad x ≡ false → p x ≡ q x) → (xs : List X) → list_any bad xs ≡ false → list_any p xs ≡ list_any q xs
list_any-same p q bad f [] h = refl
list_any-same p q bad f (x ∷ xs) h =
    let parts = or_parts (bad x) (list_any bad xs) h in ap₂ (λ a b. a || b) (f x parts.0) (list_any-same p q bad f xs parts.1)

pub cond-same : (b x y u v : Bool) → x ≡ u → y ≡ v → cond b x y ≡ cond b u v
cond-same b x y u v e f = ap₂ (λ p q. cond b p q) e f

pub is_satisfied-same : (s t : Nodes) (u : ℕ) → ((m : ℕ) → m ≢ u → s m ≡ t m) → (g : Group) → has_node g.members u ≡ false → is_satisfied s g ≡ is_satisfied t g
is_satisfied-same s t u f g h =
    cond-same
    g.all
    _
    _
    _
    _
    (list_all-same (λ m. s m.0) (λ m. t m.0) (λ m. eqb m.0 u) (λ m e. f m.0 (eqb-false m.0 u e)) g.members h)
    (list_any-same (λ m. s m.0) (λ m. t m.0) (λ m. eqb m.0 u) (λ m e. f m.0 (eqb-false m.0 u e)) g.members h)

pub has_groups-same : (s t : Nodes) (u : ℕ) → ((m : ℕ) → m ≢ u → s m ≡ t m) → (row : Option Row) → is_user row u ≡ false → has_groups s row ≡ has_groups t row
has_groups-same s t u f None h = refl
has_groups-same s t u f (Some row) h =
    list_all-same (λ g. is_satisfied s g) (λ g. is_satisfied t g) (λ g. has_node g.members u) (is_satisfied-same s t u f) row.groups h

pub given-same : (w : World) (limit : ℕ) (ranks : List ℕ) (u x n : ℕ) → is_user (slice_get w.rows n) u ≡ false → given w limit (set ranks u x) n ≡ given w limit ranks n
unfolding given admits
given-same w limit ranks u x n h =
    ap
    (λ (test : ℕ → Bool). one_above_least test limit)
    (fun_ext (λ k. ap
    (λ b. not (is_barred w n) && (is_granted w n || b))
    (has_groups-same
    (within (set ranks u x) k)
    (within ranks k)
    u
    (λ m ne. ap (is_one_to k) (get_or-set_other ranks u m x 0 ne))
    (slice_get w.rows n)
    h)))

-- what the node that is taken out gets is nearer to its right rank

pub visits-under : (a k r : ℕ) → a ≡ k → 0 < k → (r ≡ a → ⊥) → visits_left (next_kept a k) r + 1 ≤ visits_left a r
visits-under a k r e p ne = grind (arith, nat_tests)

pub visits-over : (a k r : ℕ) → (a ≡ k → ⊥) → r ≡ k → visits_left (next_kept a k) r + 1 ≤ visits_left a r
visits-over a k r ne e = grind (arith, nat_tests)

pub lesser-of : (a g k : ℕ) → (a ≡ g → ⊥) → k ≡ lesser a g → 0 < k
lesser-of a g k ne e = grind (arith, nat_tests)

pub under-not : (a g k : ℕ) → (a ≡ g → ⊥) → k ≡ lesser a g → a ≡ k → is_one_to k g ≡ false
under-not a g k ne e f = grind (arith, nat_tests)

pub over-is : (a g k : ℕ) → (a ≡ g → ⊥) → k ≡ lesser a g → (a ≡ k → ⊥) → g ≡ k
over-is a g k ne e f = grind (arith, nat_tests)

pub over-above : (a g k j : ℕ) → (a ≡ g → ⊥) → k ≡ lesser a g → (a ≡ k → ⊥) → j < k → is_one_to j a ≡ false
over-above a g k j ne e f lt = grind (arith, nat_tests)

pub lesser-le : (a g k limit : ℕ) → k ≡ lesser a g → a ≤ limit → g ≤ limit → k ≤ limit
lesser-le a g k limit e p q = grind (arith, nat_tests)

pub right-from : (k r : ℕ) → is_one_to (suc k) r ≡ true → is_one_to k r ≡ false → r ≡ suc k
right-from k r p q = grind (arith, nat_tests)

pub visits-taken : (w : World) → IsWhole w → (limit : ℕ) (ranks : List ℕ) (heap : List (Option ℕ)) (u k : ℕ) → HoldsBounds w limit ranks heap → u < length w.rows → key_of (get_or ranks u 0) (given w limit ranks u) ≡ Some k → ((n x : ℕ) → key_at heap n ≡ Some x → k ≤ x) → visits_left (next_kept (get_or ranks u 0) k) (rank w u) + 1 ≤ visits_left (get_or ranks u 0) (rank w u)
visits-taken w whole limit ranks heap u zero holds inside here least =
    let t = key_of-some (get_or ranks u 0) (given w limit ranks u) zero here in
    absurd (omega (arith, lesser-of (get_or ranks u 0) (given w limit ranks u) zero t.0 t.1))
visits-taken w whole limit ranks heap u (suc k) holds inside here least =
    let t = key_of-some (get_or ranks u 0) (given w limit ranks u) (suc k) here in
    let le : suc k ≤ limit = lesser-le (get_or ranks u 0) (given w limit ranks u) (suc k) limit t.1 (holds.small u inside) (given-le w limit ranks u) in
    let s = settled-from_heap w limit ranks heap (suc k) holds least in
    let right = given-settled w whole limit ranks holds.ranks_long k s u (omega arith) in
    elim (cases_eq (get_or ranks u 0) (suc k)) [
      | inl under ↦ visits-under
          (get_or ranks u 0)
          (suc k)
          (rank w u)
          under
          (omega arith)
          (λ e. false≢true (sym (sym right ∙ under-not (get_or ranks u 0) (given w limit ranks u) (suc k) t.0 t.1 under) ∙ (ap (is_one_to (suc k)) (e ∙ under) ∙ one_to_yes (suc k) (suc k) (omega arith) (omega arith))))
      | inr over ↦ visits-over
          (get_or ranks u 0)
          (suc k)
          (rank w u)
          over
          (right-from
          k
          (rank w u)
          (sym right ∙ (ap (is_one_to (suc k)) (over-is (get_or ranks u 0) (given w limit ranks u) (suc k) t.0 t.1 over) ∙ one_to_yes (suc k) (suc k) (omega arith) (omega arith)))
          (one_to-rank w whole k u
          ∙ (sym (within-settled w whole limit ranks holds.ranks_long (suc k) s k u (omega arith) (omega arith))
          ∙ over-above (get_or ranks u 0) (given w limit ranks u) (suc k) k t.0 t.1 over (omega arith))))
    ]

-- sums that differ in one place

pub sum_below-same : (f h : ℕ → ℕ) (m : ℕ) → ((n : ℕ) → n < m → h n ≡ f n) → sum_below h m ≡ sum_below f m
sum_below-same f h zero same = refl
sum_below-same f h (suc m) same =
    ap₂ (λ x y. x + y) (same m (omega arith)) (sum_below-same f h m (λ n lt. same n (omega arith)))

pub sum_below-drop : (f h : ℕ → ℕ) (u c m : ℕ) → u < m → ((n : ℕ) → n ≢ u → h n ≡ f n) → h u + c ≤ f u → sum_below h m + c ≤ sum_below f m
sum_below-drop f h u c zero lt same less = absurd (omega arith)
sum_below-drop f h u c (suc m) lt same less =
    elim (cases_lt u m) [
      | inl lower ↦ let ne : m ≢ u = omega arith in omega (arith, same m ne, sum_below-drop f h u c m lower same less)
      | inr top ↦ let e : u ≡ m = omega arith in
          let here : h m + c ≤ f m = subst (λ i. h i + c ≤ f i) e less in
          omega (arith, here, sum_below-same f h m (λ n below. same n (omega arith)))
    ]

pub scaled : (a b c : ℕ) → a + 1 ≤ b → a * c + c ≤ b * c
scaled a b c le = grind arith

pub work_left-taken : (w : World) → IsWhole w → (limit : ℕ) (ranks : List ℕ) (heap : List (Option ℕ)) (u k : ℕ) → HoldsBounds w limit ranks heap → u < length w.rows → key_of (get_or ranks u 0) (given w limit ranks u) ≡ Some k → ((n x : ℕ) → key_at heap n ≡ Some x → k ≤ x) → work_left w (set ranks u (next_kept (get_or ranks u 0) k)) + (2 + user_count w.rows u) ≤ work_left w ranks
unfolding work_left
work_left-taken w whole limit ranks heap u k holds inside here least =
    sum_below-drop
    (λ n. visits_left (get_or ranks n 0) (rank w n) * (2 + user_count w.rows n))
    (λ n. visits_left (get_or (set ranks u (next_kept (get_or ranks u 0) k)) n 0) (rank w n) * (2 + user_count w.rows n))
    u
    (2 + user_count w.rows u)
    (length w.rows)
    inside
    (λ n ne. ap (λ r. visits_left r (rank w n) * (2 + user_count w.rows n)) (get_or-set_other ranks u n (next_kept (get_or ranks u 0) k) 0 ne))
    (subst
    (λ r. visits_left r (rank w u) * (2 + user_count w.rows u) + (2 + user_count w.rows u) ≤ visits_left (get_or ranks u 0) (rank w u) * (2 + user_count w.rows u))
    (sym (get_or-set_same ranks u (next_kept (get_or ranks u 0) k) 0 (omega (arith, holds.ranks_long))))
    (scaled
    (visits_left (next_kept (get_or ranks u 0) k) (rank w u))
    (visits_left (get_or ranks u 0) (rank w u))
    (2 + user_count w.rows u)
    (visits-taken w whole limit ranks heap u k holds inside here least)))

-- one node more is given its key

pub or-first : (a b : Bool) → (a || b) ≡ true → b ≡ false → a ≡ true
or-first true b h e = refl
or-first false b h e = absurd (false≢true (sym e ∙ h))

pub has_node-more : (nodes : List NodeId) (i n : ℕ) (d : NodeId) → i < length nodes → has_node (take (i + 1) nodes) n ≡ (has_node (take i nodes) n || eqb (get_or nodes i d).0 n)
has_node-more nodes i n d lt = list_any_more (λ m. eqb m.0 n) nodes i d lt

pub refresh-more : (w : World) (limit : ℕ) (ranks : List ℕ) (nodes : List NodeId) (i : ℕ) (d : NodeId) (old heap new : List (Option ℕ)) → i < length nodes → length old ≡ length w.rows → Refreshes w limit ranks (take i nodes) old heap → new ≡ set heap (get_or nodes i d).0 (key_of (get_or ranks (get_or nodes i d).0 0) (given w limit ranks (get_or nodes i d).0)) → Refreshes w limit ranks (take (i + 1) nodes) old new
refresh-more w limit ranks nodes i d old heap new lt long r e =
    let u : ℕ = (get_or nodes i d).0 in
    let k : Option ℕ = key_of (get_or ranks (get_or nodes i d).0 0) (given w limit ranks (get_or nodes i d).0) in
    record {
      as_long = ap length e ∙ (length-set heap u k ∙ r.as_long);
      at_nodes = λ n inside h. elim (cases_eq n u) [
        | inl same ↦ ap (λ (xs : List (Option ℕ)). get_or xs n None) e
            ∙ subst
            (λ m. get_or (set heap u k) m None ≡ key_of (get_or ranks m 0) (given w limit ranks m))
            (sym same)
            (get_or-set_same heap u k None (omega (arith, r.as_long)))
        | inr other ↦ ap (λ (xs : List (Option ℕ)). get_or xs n None) e
            ∙ (get_or-set_other heap u n k None other
            ∙ r.at_nodes n inside (or-first (has_node (take i nodes) n) (eqb u n) (sym (has_node-more nodes i n d lt) ∙ h) (ne_eqb u n (λ q. other (sym q)))))
      ];
      others = λ n h.
          let parts = or_parts (has_node (take i nodes) n) (eqb u n) (sym (has_node-more nodes i n d lt) ∙ h) in
          let other : n ≢ u = λ q. eqb-false u n parts.1 (sym q) in
          ap (λ (xs : List (Option ℕ)). get_or xs n None) e ∙ (get_or-set_other heap u n k None other ∙ r.others n parts.0);
    }

-- a node that is not among the users

pub count_by-none : {X : Type 0} (p : X → Bool) (xs : List X) → list_any p xs ≡ false → count_by p xs ≡ 0
count_by-none p [] h = refl
count_by-none p (x ∷ xs) h =
    let parts = or_parts (p x) (list_any p xs) h in
    rw (parts.0, count_by-none p xs parts.1) refl

pub bit-false : (b : Bool) → ◌≡◌ {A = ℕ} (cond b 1 0) 0 → b ≡ false
bit-false true h = absurd (omega arith)
bit-false false h = refl

pub not_user : (rows : List Row) (u : ℕ) (users : List NodeId) (n : ℕ) → AreUsers rows u users → has_node users n ≡ false → is_user (slice_get rows n) u ≡ false
not_user rows u users n are h =
    bit-false (is_user (slice_get rows n) u) (sym (are.once n) ∙ count_by-none (λ v. eqb v.0 n) users h)

-- at the start only the changed nodes may hold keys

pub holds-start : (w : World) (limit : ℕ) (ranks : List ℕ) (changed : List NodeId) (old new : List (Option ℕ)) → length ranks ≡ length w.rows → ((n : ℕ) → get_or ranks n 0 ≤ limit) → old ≡ replicate (length w.rows) None → ((n : ℕ) → n < length w.rows → has_node changed n ≡ false → Agrees w ranks n) → Refreshes w limit ranks changed old new → HoldsKeys w limit ranks new
holds-start w limit ranks changed old new long small empty agree r = record {
  ranks_long = long;
  heap_long = r.as_long ∙ (ap length empty ∙ length-replicate (length w.rows) None);
  small = λ n inside. small n;
  keys = λ n inside. elim (cases_Bool (has_node changed n)) [
    | inl is_changed ↦ r.at_nodes n inside is_changed
    | inr kept ↦ r.others n kept
        ∙ (ap (λ (xs : List (Option ℕ)). get_or xs n None) empty
        ∙ (get_or-replicate (length w.rows) n None None inside
        ∙ sym (key_of-same (get_or ranks n 0) (given w limit ranks n) (given-from_agrees w limit ranks n (small n) (agree n inside kept)))))
  ];
}

-- one visit

pub least-everywhere : (heap : List (Option ℕ)) (u k : ℕ) → IsLeastAt heap (length heap) u k → (n x : ℕ) → key_at heap n ≡ Some x → k ≤ x
least-everywhere heap u k is n x e =
    elim (cases_lt n (length heap)) [
      | inl inside ↦ is.least n x inside e
      | inr past ↦ absurd (none_some (key_at heap n) x (get_or-eq_default heap None past) e)
    ]

pub work_left-after : (w : World) → IsWhole w → (limit : ℕ) (ranks : List ℕ) (heap : List (Option ℕ)) (u k x : ℕ) → HoldsBounds w limit ranks heap → IsLeastAt heap (length heap) u k → key_of (get_or ranks u 0) (given w limit ranks u) ≡ Some k → x ≡ next_kept (get_or ranks u 0) k → work_left w (set ranks u x) + (2 + user_count w.rows u) ≤ work_left w ranks
work_left-after w whole limit ranks heap u k x holds is here e =
    subst
    (λ y. work_left w (set ranks u y) + (2 + user_count w.rows u) ≤ work_left w ranks)
    (sym e)
    (work_left-taken w whole limit ranks heap u k holds (omega (arith, is.inside, holds.heap_long)) here (least-everywhere heap u k is))

-- no key is left

pub none-everywhere : (heap : List (Option ℕ)) (m : ℕ) → length heap ≡ m → ((n : ℕ) → n < m → key_at heap n ≡ None) → (n : ℕ) → key_at heap n ≡ None
none-everywhere heap m long none n =
    elim (cases_lt n m) [ inl inside ↦ none n inside | inr past ↦ get_or-eq_default heap None (omega arith) ]

pub empty-from_none : (heap : List (Option ℕ)) (m : ℕ) → length heap ≡ m → ((n : ℕ) → n < m → key_at heap n ≡ None) → heap ≡ replicate m None
empty-from_none heap m long none =
    ext_get_or
    None
    heap
    (replicate m None)
    (long ∙ sym (length-replicate m None))
    (λ n lt. none n (omega arith) ∙ sym (get_or-replicate m n None None (omega arith)))
